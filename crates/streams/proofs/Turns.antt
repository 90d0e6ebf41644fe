-- The needs of reading an input piece after piece, over plain variables. Assumes nothing.
use mathlib.Core.Path.{◌≡◌, refl, sym, ap, ◌∙◌, subst}
use mathlib.Core.Bool.{Bool, true, false, cond}
use mathlib.Core.List.{List, [], ◌∷◌, ◌++◌}
use Prim.Native.Nat.{ℕ, suc, ◌+◌, ◌-◌, ◌≤◌, ◌<◌}
use native.Mathlib.Omega.{arith}
use lib.Dec.{ltb, eqb}
use lib.IntN.{ℤ, pos, negsuc}
use lib.ListN.{length, take, length-append}
use lib.Seq.{length-take-le}
use borrow.Author.Tests.{ltb-true, le-ltb, ne_eqb, eqb-false}
use borrow.Rule.Slice.PartMut.{put_mid, mid_of}
use Rattle.sequences.specs.Parts.{tail_put}
use Rattle.integers.specs.Tests.{both}
use Rattle.std.specs.Counts.{IsPrefixLen, clamp_len}
use Rattle.std.specs.Int.Signed.{lt_z}
use Rattle.sheet_text.specs.Tests.{no_way}
use Rattle.streams.specs.declared.inputs.Input.{Input}
use Rattle.streams.specs.declared.inputs.State.TheVariants.{Open, Ended, Failed}
use Rattle.streams.specs.Reading.{Reply, given, piece, unread, is_open, state_of, after, goes_on, in_turn, pieces, Unbroken, ReadOn, Came}

pub counts : (k : ℕ) (held : List ℕ) → k ≤ length held → IsPrefixLen k held
counts k held h = (h, sym (length-take-le k held h))

-- no reply gives more than it was lent
pub few : (z : ℤ) (n : ℕ) → clamp_len z n ≤ n
few (pos k) n = omega arith
few (negsuc k) n = omega arith

-- the reads that can still be made: as many as there are bytes of room, and one that gives none
pub left : ℕ → Input → ℕ
left n i = (n - i.count) + cond (is_open i.state) 1 0

-- ---- what holds of the memory and of what is known, turn after turn
pub record So (held : List ℕ) (i : Input) : Type 0 where
  pub replies : List Reply
  pub in_turn_is : i ≡ in_turn replies
  pub bytes : take i.count held ≡ pieces replies
  pub unbroken : Unbroken (length held) replies
  pub within : i.count ≤ length held

pub at_first : (held : List ℕ) → So held unread
at_first held = record { replies = []; in_turn_is = unfold in_turn in refl; bytes = unfold pieces in refl; unbroken = unfold Unbroken in tt; within = omega arith }

take_two : (xs ys : List ℕ) (n : ℕ) → take (length xs + n) (xs ++ ys) ≡ xs ++ take n ys
take_two [] ys n = ap (λ k. take k ys) (let z : 0 + n ≡ n = omega arith in z)
take_two (x ∷ xs) ys n = ap (λ k. take k (x ∷ (xs ++ ys))) (let z : length (x ∷ xs) + n ≡ suc (length xs + n) = omega arith in z) ∙ ap (λ l. x ∷ l) (take_two xs ys n)

module _ (before now : List ℕ) (i r : Input) (s : So before i) (o : ReadOn before now i r) (same : length now ≡ length before) (more : goes_on (length before) i ≡ true) where
  long : length (take i.count before) ≡ i.count
  long = length-take-le i.count before s.within

  behind : length now ≡ i.count + length o.reply.lent
  behind = ap length o.put ∙ length-append (take i.count before) o.reply.lent ∙ ap (λ k. k + length o.reply.lent) long

  pub counted : r.count ≡ i.count + given o.reply
  counted = ap (λ x. x.count) o.told

  pub turn : So now r
  turn = record {
    replies = o.reply ∷ s.replies;
    in_turn_is = o.told ∙ ap (λ x. after x.count o.reply) s.in_turn_is ∙ (unfold in_turn in refl);
    bytes =
        ap (λ k. take k now) (counted ∙ ap (λ k. k + given o.reply) (sym long))
        ∙ ap (take (length (take i.count before) + given o.reply)) o.put
        ∙ take_two (take i.count before) o.reply.lent (given o.reply)
        ∙ ap (λ l. l ++ piece o.reply) s.bytes
        ∙ (unfold pieces in refl);
    unbroken =
        subst (λ n. Unbroken n (o.reply ∷ s.replies)) (sym same)
        (unfold Unbroken in (sym (ap (goes_on (length before)) s.in_turn_is) ∙ more, s.unbroken));
    within = omega (arith, counted, behind, few o.reply.got (length o.reply.lent));
  }

-- ---- one read
-- the part behind the bytes that are held was lent
module _ (held part : List ℕ) (i : Input) (same : length part ≡ length (mid_of i.count (length held - i.count) held)) (h : i.count ≤ length held) where
  abbrev after_it : List ℕ
  after_it = put_mid i.count (length held - i.count) held part

  -- a read that gave n bytes, one that gave none, and one that failed
  pub gave : (n : ℕ) → n ≤ length part → (n ≡ 0 → ⊥) → ReadOn held after_it i (record { count = i.count + n; state = Open })
  gave n l z =
      let c : n ≡ clamp_len (pos n) (length part) = omega arith in
      record {
        reply = record { got = pos n; lent = part };
        put = tail_put i.count held part h;
        told = (λ k. record { count = i.count + c k; state = Open }) ∙ ap (λ s. record { count = i.count + clamp_len (pos n) (length part); state = s }) (sym (rw (le-ltb n 0 (omega arith), ne_eqb (clamp_len (pos n) (length part)) 0 (λ e. omega arith)) refl));
      }

  pub gave_none : ReadOn held after_it i (record { count = i.count; state = Ended })
  gave_none =
      let c : 0 ≡ clamp_len (pos 0) (length part) = omega arith in
      record {
        reply = record { got = pos 0; lent = part };
        put = tail_put i.count held part h;
        told = λ k. record { count = (let z : i.count ≡ i.count + clamp_len (pos 0) (length part) = omega arith in z) k; state = cond (eqb (c k) 0) Ended Open };
      }

  pub failed_read : ReadOn held after_it i (record { count = i.count; state = Failed })
  failed_read = record {
    reply = record { got = negsuc 0; lent = part };
    put = tail_put i.count held part h;
    told = λ k. record { count = (let z : i.count ≡ i.count + 0 = omega arith in z) k; state = Failed };
  }

-- ---- the loop
pub open_count : (n : ℕ) (i : Input) → goes_on n i ≡ true → (is_open i.state ≡ true) × (i.count < n)
open_count n i e = let h = both (is_open i.state) (ltb i.count n) e in (h.0, ltb-true i.count n h.1)

-- a reply that leaves the input open gave something
open_some : (a : Reply) → is_open (state_of a) ≡ true → 0 < given a
open_some a e = go (lt_z a.got (pos 0)) (eqb (given a) 0) refl e
  where
    go : (t z : Bool) → eqb (given a) 0 ≡ z → is_open (cond t Failed (cond z Ended Open)) ≡ true → 0 < given a
    go true z q e = no_way e
    go false true q e = no_way e
    go false false q e = let n = eqb-false (given a) 0 q in omega arith

pub fewer : (before now : List ℕ) (i r : Input) (s : So before i) (o : ReadOn before now i r) → length now ≡ length before → goes_on (length before) i ≡ true → left (length now) r < left (length before) i
unfolding left
fewer before now i r s o l e = let h = open_count (length before) i e in go (is_open r.state) refl h
  where
    go : (b : Bool) → is_open r.state ≡ b → (is_open i.state ≡ true) × (i.count < length before) → (length now - r.count) + cond b 1 0 < (length before - i.count) + cond (is_open i.state) 1 0
    go false q h = rw h.0 (omega (arith, l, h.1, counted before now i r s o l e))
    go true q h = let z = open_some o.reply (sym (ap (λ x. is_open x.state) o.told) ∙ q) in rw h.0 (omega (arith, l, h.1, counted before now i r s o l e, (turn before now i r s o l e).within, z))

pub came : (held : List ℕ) (i : Input) → So held i → goes_on (length held) i ≡ false → IsPrefixLen i.count held × Came held i
came held i s e = (counts i.count held s.within, record { replies = s.replies; in_turn_is = s.in_turn_is; bytes = s.bytes; unbroken = s.unbroken; closed = e })
