-- Many points in one call: each has what it would have alone, their order only orders the replies, what the bounds say, what is past the replies is
-- kept, and 768 numbers are a reply for every row. Assumes nothing.
use Rattle.std.specs.Prelude.{◌≡◌, refl, Bool, false, ◌&&◌, List, ◌++◌, ℕ, zero, suc, ◌+◌, ◌-◌, ◌*◌, ◌/◌, ◌≤◌, ◌<◌, leb, eqb, ℤ, pos, length, get_or, drop, replicate}
use Rattle.std.proofs.Common.{sym, ap, ap₂, ◌∙◌, subst, arith, get_or-append-add, get_or-drop, le-leb, leb-false, eqb-true}
use Rattle.std.proofs.Math.Bool.{true}
use Rattle.std.proofs.Math.ListN.{get_or-append}
use Rattle.std.proofs.lemmas.Bool.{eqb-false}
use Rattle.integers.specs.Tests.{both, le_of}
use Rattle.model.specs.declared.Job.{Job}
use Rattle.model.specs.Refusals as refused
use Rattle.model.specs.Refusals.{check, accepted}
use Rattle.model.specs.Jobs.{coordinate, coordinates, own}
use Rattle.model.specs.Store.{forest, store_of, begins}
use Rattle.model.specs.Distance.{lo, hi, named}
use Rattle.model.specs.Entries.{over, trees_checks, point_checks, point_refusal, point, spots_in, spots_fit, replies, points_checks, points_refusal, points_reply}
use Rattle.model.specs.Promises.{Bounds, whole_point, spot_x, spot_y, hi_at, PointsAlone, PointsTogether, PointsOrder, PointsTurned, PointsPast, PointsTrue, ReplyRoom, ReplyFills}
use Rattle.ranges.specs.Refusals.{AllPass, all_pass, passed_all, tells, accepted_is}
use Rattle.ranges.specs.Legal.{row_in, row_all}
use Rattle.many_points.specs.Replies.{by_twos, replies_long, ReplyOf, replies_at}
use Rattle.clearance.specs.Demands.{point_holds}

module _ (j : Job) (spots store reply : List ℤ) where
  -- ---- the reply of an accepted call
  module _ (e : points_refusal j spots store reply ≡ 0) where
    written : points_reply j spots store reply ≡ over (replies (forest j) spots) reply
    unfolding points_reply
    written = accepted_is (points_refusal j spots store reply) (over (replies (forest j) spots) reply) reply e

    at_front : (i : ℕ) → i < 3 * spots_in spots → get_or (points_reply j spots store reply) i (pos 0) ≡ get_or (replies (forest j) spots) i (pos 0)
    at_front i h =
        let r = replies (forest j) spots in
        ap (λ (l : List ℤ). get_or l i (pos 0)) written ∙ get_or-append r (drop (length r) reply) (pos 0) i (omega (arith, replies_long (forest j) spots))

    -- the k-th reply is that of the k-th point
    reply_of : (k : ℕ) → k < spots_in spots → ReplyOf (forest j) (spot_x spots k) (spot_y spots k) (points_reply j spots store reply) k
    reply_of k h =
        let r = replies_at (forest j) spots k h in
        record {
          lo_is = at_front (3 * k) (omega arith) ∙ r.lo_is;
          hi_is = at_front (3 * k + 1) (omega arith) ∙ r.hi_is;
          edge_is = at_front (3 * k + 2) (omega arith) ∙ r.edge_is;
        }

    -- and the point would be accepted alone
    alone_passes : (k : ℕ) → k < spots_in spots → point_refusal j (spot_x spots k) (spot_y spots k) store ≡ 0
    unfolding points_refusal point_refusal
    alone_passes k h =
        let p = passed_all (points_checks j spots store reply) e in
        let c = p.1.1.0 in
        let in_range : (coordinate (spot_x spots k) && coordinate (spot_y spots k)) ≡ true = rw (row_in spots (2 * k) c (omega arith), row_in spots (2 * k + 1) c (omega arith)) in
        let t = p.1.1.1.1.1 in
        all_pass (point_checks j (spot_x spots k) (spot_y spots k) store) (p.0, (p.1.0, (in_range, (p.1.1.1.0, (t.0, (t.1.0, (t.1.1.1.0, tt)))))))

pub points_alone : PointsAlone
unfolding point
points_alone j spots store reply e k h =
    let x = spot_x spots k in
    let y = spot_y spots k in
    let z = alone_passes j spots store reply e k h in
    let n = point_refusal j x y store in
    let r = reply_of j spots store reply e k h in
    record {
      given = z;
      lo_is = r.lo_is ∙ sym (accepted_is n (lo (forest j) x y) (pos 0) z);
      hi_is = r.hi_is ∙ sym (accepted_is n (hi (forest j) x y) (pos 0) z);
      edge_is = r.edge_is ∙ ap pos (sym (accepted_is n (named (forest j) x y) 0 z));
    }

-- ---- points that are accepted alone
-- every number of a row is in place 2 · k or 2 · k + 1
each_number : (zs : List ℤ) (n : ℕ) → length zs ≡ 2 * n → ((k : ℕ) → k < n → (coordinate (spot_x zs k) ≡ true) × (coordinate (spot_y zs k) ≡ true)) → (i : ℕ) → i < length zs → coordinate (get_or zs i (pos 0)) ≡ true
each_number zs n e h i l = go (eqb i (2 * (i / 2))) refl
  where
    go : (t : Bool) → eqb i (2 * (i / 2)) ≡ t → coordinate (get_or zs i (pos 0)) ≡ true
    go true w = subst (λ (p : ℕ). coordinate (get_or zs p (pos 0)) ≡ true) (sym (eqb-true i (2 * (i / 2)) w)) (h (i / 2) (omega arith)).0
    go false w = let o = eqb-false i (2 * (i / 2)) w in subst (λ (p : ℕ). coordinate (get_or zs p (pos 0)) ≡ true) (let z : 2 * (i / 2) + 1 ≡ i = omega arith in z) (h (i / 2) (omega arith)).1

-- what 9 asks of a row, as facts
alone_checked : (j : Job) (x y : ℤ) (store : List ℤ) → (point j x y store).refusal ≡ 0 → AllPass (point_checks j x y store)
unfolding point point_refusal
alone_checked j x y store e = passed_all (point_checks j x y store) e

pub points_together : PointsTogether
unfolding points_refusal
points_together j spots store reply h f r =
    let w = by_twos spots f in
    let c = row_all spots (each_number spots (spots_in spots) w.2 (λ k l. both (coordinate (spot_x spots k)) (coordinate (spot_y spots k)) (alone_checked j (spot_x spots k) (spot_y spots k) store (h k l)).1.1.0)) in
    let p = alone_checked j (spot_x spots 0) (spot_y spots 0) store (h 0 w.0) in
    let t = p.1.1.1 in
    all_pass (points_checks j spots store reply) (p.0, (p.1.0, (c, (t.0, (f, (t.1.0, (t.1.1.0, (le-leb (3 * spots_in spots) (length reply) r, (t.1.1.1.0, tt)))))))))

-- ---- the order of the points
fits_too : (one other : List ℤ) → length other ≡ length one → spots_fit one ≡ true → spots_fit other ≡ true
unfolding spots_fit
fits_too one other e f = rw e f

pub points_turned : PointsTurned
unfolding points_refusal
points_turned j one other store reply left e l a m =
    let p = passed_all (points_checks j one store reply) e in
    let fits = p.1.1.1.1.0 in
    let room = le_of (3 * spots_in one) (length reply) p.1.1.1.1.1.1.1.0 in
    points_together j other store left
    (λ n h.
    let s = a n h in
    subst (λ (y : ℤ). (point j (spot_x other n) y store).refusal ≡ 0) (sym s.3)
    (subst (λ (x : ℤ). (point j x (spot_y one s.0) store).refusal ≡ 0) (sym s.2) (points_alone j one store reply e s.0 s.1).given))
    (fits_too one other l fits) (omega (arith, l, m, room))

pub points_order : PointsOrder
points_order j one other store reply left e f k m h i p q =
    let r = reply_of j one store reply e k h in
    let s = reply_of j other store left f m i in
    record {
      lo_same = r.lo_is ∙ ap₂ (lo (forest j)) p q ∙ sym s.lo_is;
      hi_same = r.hi_is ∙ ap₂ (hi (forest j)) p q ∙ sym s.hi_is;
      edge_same = r.edge_is ∙ ap₂ (λ (x y : ℤ). pos (named (forest j) x y)) p q ∙ sym s.edge_is;
    }

pub points_true : PointsTrue
points_true j spots store reply e k h =
    let a = points_alone j spots store reply e k h in
    subst (λ (z : ℤ). Bounds j (whole_point (spot_x spots k) (spot_y spots k)) z (hi_at (points_reply j spots store reply) k)) (sym a.lo_is)
    (subst (λ (z : ℤ). Bounds j (whole_point (spot_x spots k) (spot_y spots k)) (point j (spot_x spots k) (spot_y spots k) store).lo z) (sym a.hi_is)
    (point_holds j (spot_x spots k) (spot_y spots k) store a.given))

-- ---- past the replies
past_front : (r old : List ℤ) (i : ℕ) → length r ≤ i → get_or (over r old) i (pos 0) ≡ get_or old i (pos 0)
past_front r old i h =
    let e : length r + (i - length r) ≡ i = omega arith in
    ap (λ (n : ℕ). get_or (over r old) n (pos 0)) (sym e)
    ∙ get_or-append-add r (drop (length r) old) (i - length r) (pos 0)
    ∙ get_or-drop (length r) old (i - length r) (pos 0)
    ∙ ap (λ (n : ℕ). get_or old n (pos 0)) e

pub points_past : PointsPast
unfolding points_reply accepted
points_past j spots store reply i h = go (points_refusal j spots store reply)
  where
    go : (n : ℕ) → get_or (accepted n (over (replies (forest j) spots) reply) reply) i (pos 0) ≡ get_or reply i (pos 0)
    go zero = past_front (replies (forest j) spots) reply i (omega (arith, replies_long (forest j) spots))
    go (suc n) = refl

-- ---- a reply for every row: 9 is asked before 7
pub reply_room : ReplyRoom
unfolding points_refusal
reply_room j spots store reply h e =
    let before = own j (check refused.range (coordinates spots)) ++ (check refused.sheaf (spots_fit spots) ++ trees_checks j store) in
    let t = tells 6 before refused.space (leb (3 * spots_in spots) (length reply)) (check refused.stranger (begins store (store_of j))) refl e in
    let p = passed_all before t.0 in
    absurd (omega (arith, (by_twos spots p.1.1.1.1.0).1, leb-false (3 * spots_in spots) (length reply) t.1))

pub reply_fills : ReplyFills
unfolding spots_fit
reply_fills = (replicate 512 (pos 0), refl, refl)
