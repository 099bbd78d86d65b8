-- What the functions read is a reading.
use Rattle.std.proofs.Common.{◌≡◌, ℕ, ◌<◌, sym, ap, subst, ◌∙◌, ℤ, ◌≤ℤ◌, List, length, Some, None}
use Rattle.std.proofs.lemmas.List.{length-map}
use Rattle.font_ir.specs.declared.header.Master.{Master}
use Rattle.axis_space.specs.Points.{IsReading, below, above, reading, user_at, points_of}
use Rattle.axis_space.specs.declared.points.Point.{Point}
use Rattle.axis_space.proofs.PointLemmas.{below_holds, above_holds, below_is, above_is, none_below}
use Rattle.axis_space.proofs.PointLemmas.{none_above, at_itself, reading_bounded, some_neighbour}
use Rattle.axis_space.proofs.NeighbourLemmas.{placed}

pub reading_is : (points : List Point) (design : ℤ) → 0 < length points
    → IsReading points design (reading (below design points) (above design points) design)
reading_is points design h = record {
  placed = placed points design h;
  inside = λ p q low high. ap (λ o. reading o (above design points) design)
      (below_is design points p low) ∙ ap (λ o. reading (Some p) o design)
      (above_is design points q high);
  before = λ q all high. ap (λ o. reading o (above design points) design)
      (none_below design points all) ∙ ap (λ o. reading None o design)
      (above_is design points q high);
  after = λ p all low. ap (λ o. reading o (above design points) design)
      (below_is design points p low) ∙ ap (λ o. reading (Some p) o design)
      (none_above design points all);
  at_point = λ p first at. at_itself design points p first at;
  within = λ low high all.
      let P : Point → Type 0 = λ q. (low ≤ℤ q.user.0) × (q.user.0 ≤ℤ high) in
      reading_bounded (below design points) (above design points) design low high
      (some_neighbour design points h) (below_holds P design points all)
      (above_holds P design points all);
}

pub reads : (masters : List Master) (axis : ℕ) (design u : ℤ) → 0 < length masters
    → u ≡ user_at (points_of masters axis) design → IsReading (points_of masters axis) design u
unfolding user_at
reads masters axis design u h e =
    let some : 0 < length (points_of masters axis) = simp length-map h in
    subst (IsReading (points_of masters axis) design) (sym e)
    (reading_is (points_of masters axis) design some)
