-- Parts of a slice that are lent and come back: `&s[p..]`, `&mut s[p..]`, `&mut s[a..e]`. Assumes nothing.
use Rattle.std.specs.Prelude.{◌≡◌, List, ◌++◌, ℕ, ◌-◌, ◌≤◌, length, take, drop}
use Rattle.std.proofs.Common.{append-nil, arith, length-drop, take_all}
use Rattle.std.proofs.Math.Seq.{drop-length}
use borrow.Rule.Slice.PartMut.{put_mid, mid_of, Post-is}

-- a part that runs to the end of its slice
pub tail_mid : {X : Type 0} (p : ℕ) (l : List X) → mid_of p (length l - p) l ≡ drop p l
tail_mid p l = take_all (length l - p) (drop p l) (rw length-drop (omega arith))

pub tail_put : {X : Type 0} (p : ℕ) (l ys : List X) → p ≤ length l → put_mid p (length l - p) l ys ≡ take p l ++ ys
tail_put p l ys h = rw (Post-is p (length l) l h, drop-length l, append-nil ys)
