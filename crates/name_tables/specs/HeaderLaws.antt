-- What follows from the conditions on a header.
use Rattle.std.proofs.Common.{◌≡◌, ℕ, ◌<◌, ◌≤◌, List, length, get_or, ap, ◌∙◌, arith}
use Rattle.std.proofs.lemmas.List.Elements.{All-get_or, All-same, All-weaker}
use Rattle.std.specs.List.{All}
use Rattle.fixed_math.specs.declared.Fixed.{Fixed}
use Rattle.font_ir.specs.declared.header.Header.{Header}
use Rattle.font_ir.specs.declared.header.Instance.{Instance}
use Rattle.font_ir.specs.declared.header.Master.{Master}
use Rattle.font_ir.specs.Coordinates.{HasAxis}
use Rattle.font_ir.specs.Headers.{IsHeader, IsInstance, IsMaster}

-- each of the masters has coordinates on an axis
pub has_axis : (header : Header) (masters : List Master) (axis : ℕ) → masters ≡ header.masters
    → IsHeader header → axis < length header.axes → All (HasAxis axis) masters
has_axis header masters axis is h within =
    All-same (HasAxis axis) masters header.masters is
    (All-weaker (IsMaster (length header.axes)) (HasAxis axis)
    (λ master (m : IsMaster (length header.axes) master). record
    { design = omega (arith, m.design); user = omega (arith, m.user) })
    header.masters h.masters)

-- and on each axis of a place
pub has_axes : (header : Header) (masters : List Master) (designs : List Fixed)
    → masters ≡ header.masters → length designs ≡ length header.axes → IsHeader header → (axis : ℕ)
    → axis < length designs → All (HasAxis axis) masters
has_axes header masters designs is same h axis within
    = has_axis header masters axis is h (omega arith)

pub has_master : (header : Header) → IsHeader header → 0 < length header.masters
has_master header h = omega (arith, h.origin)

pub few_axes : (header : Header) → IsHeader header → length header.axes ≤ 8
few_axes header h = h.few_axes

pub few_masters : (header : Header) → IsHeader header → length header.masters ≤ 32
few_masters header h = h.few_masters

pub few_instances : (header : Header) → IsHeader header → length header.instances ≤ 64
few_instances header h = h.few_instances

-- an instance has a coordinate on each axis
pub has_coordinates : (header : Header) (i : ℕ) (instance : Instance) → IsHeader header
    → i < length header.instances → instance ≡ get_or header.instances i instance
    → length instance.design ≡ length header.axes
has_coordinates header i instance h within is =
    let found = All-get_or (IsInstance (length header.axes)) header.instances i instance within
    h.instances in
    ap (λ (x : Instance). length x.design) is ∙ found.design
