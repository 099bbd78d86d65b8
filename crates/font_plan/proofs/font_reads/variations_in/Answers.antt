-- what is read stands behind what is made
use Rattle.std.proofs.Common.{◌≡◌, ◌++◌, [], map, ap, sym, ◌∙◌}
use Rattle.std.specs.List.{flat_map}
use Rattle.access_context.specs.Read.{plain_item}
use Rattle.font_graph.specs.Graph.{data_in}
use Rattle.font_graph.specs.Same.{same_id}
use Rattle.font_plan.specs.Jobs.{parts}
use Rattle.font_plan.specs.Reading.{data_at}
use Rattle.font_plan.proofs.Data.{data_is, made_first, none_first, one_made}
use Rattle.font_plan.proofs.font_reads.variations_in.Goals as goal
use Rattle.font_plan.proofs.font_reads.variations_in.Goals.{then-begins_with_made+in_ok-part+in_ok-push, else-begins_with_made}

pub returns : goal.returns
returns c =
    let read = flat_map data_at (map plain_item c.items.result.now) in
    let is : read ≡ data_in (parts []) same_id c.args.reads.now
    = ap (flat_map data_at) c.items.ensures ∙ sym (data_is c.args.reads.now) in
    let numbers = c.args.order.now.numbers in
    c.in_ok-push_data.ensures
    ∙ ap (λ others. map (λ part. part.value.items) c.if-begins_with_made.parts.items ++ others) is
    ∙ elim c.if-begins_with_made.branch [
      | then-begins_with_made+in_ok-part+in_ok-push w ↦
          ap (λ front. front ++ data_in (parts []) same_id c.args.reads.now)
          (ap (map (λ part. part.value.items)) (ap (λ v. v.items) w.parts-is
          ∙ w.in_ok-push.ensures.items)
          ∙ one_made c.new-parts.result.items w.in_ok-part.part [] c.new-parts.ensures.items
          w.in_ok-part.ensures)
          ∙ made_first numbers [] (data_in (parts []) same_id c.args.reads.now)
          (sym c.begins_with_made.ensures ∙ w.if-begins_with_made.true)
      | else-begins_with_made w ↦
          ap (λ front. front ++ data_in (parts []) same_id c.args.reads.now)
          (ap (map (λ part. part.value.items)) (ap (λ v. v.items) w.parts-is
          ∙ c.new-parts.ensures.items))
          ∙ none_first numbers [] (data_in (parts []) same_id c.args.reads.now)
          (sym c.begins_with_made.ensures ∙ w.if-begins_with_made.false)
    ]
