-- The needs of the functions that copy a job's numbers: parts of a row. Assumes nothing.
use Rattle.std.proofs.Common.{◌≡◌, sym, ap, ◌∙◌, List, [], ◌∷◌, ◌++◌, append_assoc, append-nil, ℕ, ◌+◌, ◌-◌, ◌≤◌, ◌<◌, arith, length, get_or, take, drop, length-take, length-drop, length-append, w32, FitsSigned, to_z, of_z, lt-ltb, ◌^◌, lit<, lit≤}
use Rattle.std.specs.Prelude.{ℤ, pos, replicate, min}
use Rattle.std.specs.Prelude.{◌⊎◌}
use Rattle.std.proofs.Common.{inl, inr}
use Rattle.std.proofs.lemmas.Bool.{cases_lt}
use Rattle.std.proofs.lemmas.Int.{to_z-of_z}
use Rattle.std.proofs.lemmas.List.{length-replicate, get_or-replicate}
use lib.ListN.{get_or-append, get_or-eq_default, drop_of_length-le}
use lib.Seq.{get_or-take, get_or-drop, get_or-append-add, take_at}
use borrow.Rule.Slice.PartMut.{put_mid, post_of}
use Rattle.model.specs.declared.Job.{Job}
use Rattle.flat_jobs.specs.FlatJobs.{places_at, places_long, marks_at, marks_long, row_long, stretch, count_of, job_from, head_of, numbers_of}
use Rattle.flat_jobs.specs.Rows.{stretch_long, stretch_get, stretch_is}

-- ---- a row whose missing numbers are zeros
module _ (vs : List ℤ) (n k : ℕ) (e : k ≡ min (length vs) n) where
  taken : length (take k vs) ≡ k
  taken = omega (arith, length-take k vs)

  long : length (take k vs ++ drop k (replicate n (pos 0))) ≡ n
  long = simp (length-append, length-drop, length-replicate) (omega (arith, taken))

  at_each : (i : ℕ) → i < n → get_or vs (0 + i) (pos 0) ≡ get_or (take k vs ++ drop k (replicate n (pos 0))) i (pos 0)
  at_each i h = ap (λ m. get_or vs m (pos 0)) (let z : 0 + i ≡ i = omega arith in z) ∙ go (cases_lt i k)
    where
      go : (i < k) ⊎ (k ≤ i) → get_or vs i (pos 0) ≡ get_or (take k vs ++ drop k (replicate n (pos 0))) i (pos 0)
      go (inl l) = sym (get_or-append (take k vs) (drop k (replicate n (pos 0))) (pos 0) i (omega (arith, taken)) ∙ get_or-take k vs i (pos 0) l)
      go (inr g) =
          get_or-eq_default vs (pos 0) (let z : length vs ≤ i = omega arith in z)
          ∙ sym (ap (λ m. get_or (take k vs ++ drop k (replicate n (pos 0))) m (pos 0)) (let z : i ≡ length (take k vs) + (i - k) = omega (arith, taken) in z)
          ∙ get_or-append-add (take k vs) (drop k (replicate n (pos 0))) (i - k) (pos 0)
          ∙ get_or-drop k (replicate n (pos 0)) (i - k) (pos 0)
          ∙ get_or-replicate n (k + (i - k)) (pos 0) (pos 0) (omega arith))

  pub whole_is : take k vs ++ drop k (replicate n (pos 0)) ≡ stretch 0 n vs
  whole_is = sym (stretch_is 0 n vs _ long at_each)

-- a part of it is the row's own
pub part_is : (n at long : ℕ) (vs : List ℤ) → at + long ≤ n → take long (drop at (stretch 0 n vs)) ≡ stretch at long vs
part_is n at long vs h =
    sym (stretch_is at long vs _ (simp (length-take, length-drop) (omega (arith, stretch_long 0 n vs)))
    (λ i l.
    sym (get_or-take long (drop at (stretch 0 n vs)) i (pos 0) l ∙ get_or-drop at (stretch 0 n vs) i (pos 0) ∙ stretch_get 0 n vs (at + i) (omega arith) ∙ ap (λ k. get_or vs k (pos 0)) (omega arith))))

-- a number as it is read back from its bits
abbrev pub read : ℤ → ℤ
read z = to_z w32 (of_z w32 z)

-- the numbers of the row make its job
pub job_is : (vs row places marks : List ℤ) (count : ℕ) → row ≡ stretch 0 row_long vs → FitsSigned w32 (get_or row 0 (pos 0)) → FitsSigned w32 (get_or row 1 (pos 0)) → FitsSigned w32 (get_or row 2 (pos 0)) → FitsSigned w32 (get_or row 3 (pos 0)) → FitsSigned w32 (get_or row 4 (pos 0)) → FitsSigned w32 (get_or row 5 (pos 0)) → FitsSigned w32 (get_or row 6 (pos 0)) → places ≡ take places_long (drop places_at row) → marks ≡ take marks_long (drop marks_at row) → count ≡ count_of (read (get_or row 6 (pos 0))) → ◌≡◌ {A = Job} (record { x = read (get_or row 0 (pos 0)); y = read (get_or row 1 (pos 0)); n = read (get_or row 2 (pos 0)); m = read (get_or row 3 (pos 0)); reach = read (get_or row 4 (pos 0)); grain = read (get_or row 5 (pos 0)); count = count; places = places; marks = marks }) (job_from vs)
unfolding job_from
job_is vs row places marks count e f0 f1 f2 f3 f4 f5 f6 p m c = λ i. record {
  x = number 0 f0 (lit< tt) i;
  y = number 1 f1 (lit< tt) i;
  n = number 2 f2 (lit< tt) i;
  m = number 3 f3 (lit< tt) i;
  reach = number 4 f4 (lit< tt) i;
  grain = number 5 f5 (lit< tt) i;
  count = (c ∙ ap count_of (number 6 f6 (lit< tt))) i;
  places = (p ∙ ap (λ l. take places_long (drop places_at l)) e ∙ part_is row_long places_at places_long vs (lit≤ tt)) i;
  marks = (m ∙ ap (λ l. take marks_long (drop marks_at l)) e ∙ part_is row_long marks_at marks_long vs (lit≤ tt)) i;
}
  where
    number : (k : ℕ) → FitsSigned w32 (get_or row k (pos 0)) → k < row_long → read (get_or row k (pos 0)) ≡ get_or vs k (pos 0)
    number k f h = to_z-of_z w32 (get_or row k (pos 0)) f ∙ ap (λ l. get_or l k (pos 0)) e ∙ stretch_get 0 row_long vs k h ∙ ap (λ m. get_or vs m (pos 0)) (let z : 0 + k ≡ k = omega arith in z)

-- ---- a row that is written
-- a part put behind a front
put_behind : (f r p : List ℤ) (a k : ℕ) → length f ≡ a → put_mid a k (f ++ r) p ≡ (f ++ p) ++ post_of a k (f ++ r)
put_behind f r p a k e = ap (λ u. u ++ (p ++ post_of a k (f ++ r))) (take_at f r a e) ∙ sym (append_assoc f p (post_of a k (f ++ r)))

-- three parts, one behind another
pub parts_put : (f p m old : List ℤ) → length f ≡ places_at → length p ≡ places_long → length m ≡ marks_long → length old ≡ row_long → put_mid marks_at marks_long (put_mid places_at places_long (f ++ post_of 0 places_at old) p) m ≡ (f ++ p) ++ m
parts_put f p m old a b c d =
    ap (λ u. put_mid marks_at marks_long u m) (put_behind f (post_of 0 places_at old) p places_at places_long a)
    ∙ put_behind (f ++ p) rest m marks_at marks_long (length-append f p ∙ omega (arith, a, b))
    ∙ ap (λ u. ((f ++ p) ++ m) ++ u) none
    ∙ append-nil ((f ++ p) ++ m)
  where
    rest : List ℤ
    rest = post_of places_at places_long (f ++ post_of 0 places_at old)

    none : post_of marks_at marks_long ((f ++ p) ++ rest) ≡ []
    none = drop_of_length-le (drop marks_at ((f ++ p) ++ rest)) {i = marks_long} (simp (length-drop, length-append) (omega (arith, a, b, d)))

pub head_is : (j : Job) → j.count ≤ 64 → FitsSigned w32 j.x → FitsSigned w32 j.y → FitsSigned w32 j.n → FitsSigned w32 j.m → FitsSigned w32 j.reach → FitsSigned w32 j.grain → read j.x ∷ read j.y ∷ read j.n ∷ read j.m ∷ read j.reach ∷ read j.grain ∷ to_z w32 j.count ∷ [] ≡ head_of j
head_is j h a b c d e f = λ i. to_z-of_z w32 j.x a i ∷ to_z-of_z w32 j.y b i ∷ to_z-of_z w32 j.n c i ∷ to_z-of_z w32 j.m d i ∷ to_z-of_z w32 j.reach e i ∷ to_z-of_z w32 j.grain f i ∷ count i ∷ []
  where
    count : to_z w32 j.count ≡ pos j.count
    count = rw (lt-ltb j.count (2 ^ 31) (omega arith))

pub row_is : (j : Job) (f p m old : List ℤ) → f ≡ head_of j → p ≡ j.places → m ≡ j.marks → length j.places ≡ places_long → length j.marks ≡ marks_long → length old ≡ row_long → put_mid marks_at marks_long (put_mid places_at places_long (f ++ post_of 0 places_at old) p) m ≡ numbers_of j
unfolding numbers_of
row_is j f p m old a b c l n o =
    parts_put f p m old (ap length a) (ap length b ∙ l) (ap length c ∙ n) o
    ∙ (λ i. (a i ++ b i) ++ c i)
