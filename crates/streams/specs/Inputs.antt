-- The input and what is read of it. A sheet has at most 8,192 bytes, so the first 8,193 of an input decide what is printed. Assumes nothing.
use Rattle.std.specs.Prelude.{◌≡◌, Bool, refl, true, false, cond, List, [], ◌∷◌, ◌⊎◌, ℕ, ◌≤◌, T, eqb, pos, length, take}
use Rattle.std.proofs.Common.{sym, ap, subst, ◌∙◌, arith, length-take-le, take_all}
use Rattle.std.specs.Int.Signed.{lt_z}
use Rattle.model.specs.Bytes.{bytes}
use Rattle.model.specs.Entries.{read_answer, read}
use Rattle.model.specs.Printing.{map_answered, printed}
use Rattle.integers.specs.Tests.{both}
use Rattle.sheet_text.specs.Sheets.{front_read}
use Rattle.streams.specs.declared.inputs.Input.{Input}
use Rattle.streams.specs.declared.inputs.State.TheVariants.{Open, Ended, Failed}
use Rattle.streams.specs.Reading.{Reply, given, state_of, is_open, failed, has_failed, goes_on, in_turn, Unbroken, Came}

-- The first k bytes of `held` were read from an input: all that it had, or as many as there was room for. Then `text` is the answer to that
-- input, whatever stands in it past what was read.
abbrev pub Answers : List ℕ → ℕ → List ℕ → Type 0
Answers held k text = (input : List ℕ) → take k held ≡ take (length held) input → text ≡ printed input

-- what standard error tells: one of two lines
abbrev pub Message : List ℕ → Type 0
Message line = (line ≡ bytes "clearmap: the answer could not be written\n") ⊎ (line ≡ bytes "clearmap: the input could not be read to its end\n")

-- so many bytes were handed on: none, or those of some input's answer
abbrev pub Handed : ℕ → Type 0
Handed n = (n ≡ 0) ⊎ ((input : List ℕ) × (n ≡ length (printed input)))

-- 8,193 bytes of an input tell its answer
pub front_printed : (n : ℕ) (s : List ℕ) → 8193 ≤ n → printed (take n s) ≡ printed s
unfolding printed read
front_printed n s h = ap (λ u. map_answered (read_answer u).refusal (read_answer u).job) (front_read n s (omega arith))

-- so what is printed for the bytes read answers the input
pub answers_input : (held : List ℕ) (k : ℕ) → 8193 ≤ length held → Answers held k (printed (take k held))
answers_input held k h input e = ap printed e ∙ front_printed (length held) input h

-- and nothing else does: the bytes read may be the whole input
pub answer_read : (held : List ℕ) (k : ℕ) (text : List ℕ) → k ≤ length held → Answers held k text → text ≡ printed (take k held)
answer_read held k text h a = a (take k held) (sym (take_all (length held) (take k held) (omega (arith, length-take-le k held h))))

-- ---- an input that is answered, with no failure at its end, had none before
abbrev pub Good : List Reply → Type 0
Good [] = Unit {0}
Good (a ∷ before) = (lt_z a.got (pos 0) ≡ false) × Good before

open_good : (a : Reply) → is_open (state_of a) ≡ true → lt_z a.got (pos 0) ≡ false
open_good a e = go (lt_z a.got (pos 0)) e
  where
    go : (t : Bool) → is_open (cond t Failed (cond (eqb (given a) 0) Ended Open)) ≡ true → t ≡ false
    go true e = absurd (subst T (sym e) tt)
    go false e = refl

kept_good : (a : Reply) → failed (state_of a) ≡ false → lt_z a.got (pos 0) ≡ false
kept_good a e = go (lt_z a.got (pos 0)) e
  where
    go : (t : Bool) → failed (cond t Failed (cond (eqb (given a) 0) Ended Open)) ≡ false → t ≡ false
    go true e = e
    go false e = refl

good_before : (n : ℕ) (rs : List Reply) → goes_on n (in_turn rs) ≡ true → Unbroken n rs → Good rs
unfolding in_turn Unbroken
good_before n [] h u = tt
good_before n (a ∷ before) h u = (open_good a (both (is_open (state_of a)) _ h).0, good_before n before u.0 u.1)

pub none_failed : (held : List ℕ) (r : Input) (c : Came held r) → has_failed r ≡ false → Good c.replies
unfolding in_turn Unbroken
none_failed held r c e = go c.replies c.in_turn_is c.unbroken
  where
    go : (rs : List Reply) → r ≡ in_turn rs → Unbroken (length held) rs → Good rs
    go [] q u = tt
    go (a ∷ before) q u = (kept_good a (sym (ap has_failed q) ∙ e), good_before (length held) before u.0 u.1)
