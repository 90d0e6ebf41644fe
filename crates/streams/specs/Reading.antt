-- What replies of the system's read say of an input. No contract can name the replies that the system gave, so that the promises here are of some
-- replies: what is known of the input and the bytes held are as those have it. Assumes nothing.
use Rattle.std.specs.Prelude.{◌≡◌, Bool, true, false, cond, ◌&&◌, List, [], ◌∷◌, ◌++◌, ℕ, ◌+◌, ◌≤◌, ltb, eqb, ℤ, pos, length, take}
use Rattle.std.specs.Int.Signed.{lt_z}
pub use Rattle.std.specs.Counts.{IsPrefixLen as Counts}
use Rattle.std.specs.Counts.{clamp_len}
use Rattle.streams.specs.declared.inputs.Input.{Input}
use Rattle.streams.specs.declared.inputs.State.{State}
use Rattle.streams.specs.declared.inputs.State.TheVariants.{Open, Ended, Failed}

-- a read's reply: its answer, and what the memory lent to it then holds
pub record Reply : Type 0 where
  pub got : ℤ
  pub lent : List ℕ

-- the bytes that it gave: as many as it answers, and none where the answer is below 0
abbrev pub given : Reply → ℕ
given a = clamp_len a.got (length a.lent)

abbrev pub piece : Reply → List ℕ
piece a = take (given a) a.lent

-- ---- what is known of an input
abbrev pub unread : Input
unread = record { count = 0; state = Open }

abbrev pub is_open : State → Bool
is_open Open = true
is_open Ended = false
is_open Failed = false

abbrev pub failed : State → Bool
failed Open = false
failed Ended = false
failed Failed = true

abbrev pub has_failed : Input → Bool
has_failed i = failed i.state

-- after a reply, behind `at` bytes that are held: one below 0 failed, and one that gave none is the end
abbrev pub state_of : Reply → State
state_of a = cond (lt_z a.got (pos 0)) Failed (cond (eqb (given a) 0) Ended Open)

abbrev pub after : ℕ → Reply → Input
after at a = record { count = at + given a; state = state_of a }

-- there is more to read, with room for n bytes in all
abbrev pub goes_on : ℕ → Input → Bool
goes_on n i = is_open i.state && ltb i.count n

-- ---- replies in turn, the last one first: what they say, and the bytes that they gave
unfoldable pub in_turn : List Reply → Input
in_turn [] = unread
in_turn (a ∷ before) = after (in_turn before).count a

unfoldable pub pieces : List Reply → List ℕ
pieces [] = []
pieces (a ∷ before) = pieces before ++ piece a

-- each was asked for while there was more to read, with room for n bytes in all: none after the end or a failure
unfoldable pub Unbroken : ℕ → List Reply → Type 0
Unbroken n [] = Unit {0}
Unbroken n (a ∷ before) = (goes_on n (in_turn before) ≡ true) × Unbroken n before

-- ---- what the functions promise
-- no count passes what a machine number holds
abbrev pub Room : ℕ → ℕ → Type 0
Room at n = at + n ≤ 18446744073709551615

-- one read more: some reply, put behind the bytes that were held
pub record ReadOn (before now : List ℕ) (i r : Input) : Type 0 where
  pub reply : Reply
  pub put : now ≡ take i.count before ++ reply.lent
  pub told : r ≡ after i.count reply

-- replies in turn until there was no more to read, and the bytes that they gave, in memory
pub record Came (held : List ℕ) (r : Input) : Type 0 where
  pub replies : List Reply
  pub in_turn_is : r ≡ in_turn replies
  pub bytes : take r.count held ≡ pieces replies
  pub unbroken : Unbroken (length held) replies
  pub closed : goes_on (length held) r ≡ false
