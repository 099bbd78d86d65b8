use Rattle.std.proofs.Common.{append_assoc, ◌∙◌, ap, ◌^◌, ◌≡◌}
use Rattle.font_assembly.specs.File.{directory_head}
use Rattle.font_assembly.proofs.file.push_directory_head.Goals as goal

pub returns-clause-bytes : goal.returns-clause-bytes
unfolding directory_head
returns-clause-bytes c =
    let power : c.pow-search_range.result ≡ 2 ^ c.entry_selector-entry_selector.result
    = c.pow-search_range.ensures ∙ ap (λ n. 2 ^ n) c.from.ensures in
    rw (← c.entry_selector-entry_selector.ensures.value, ← power)
    (rw (
      c.in_ok-push_uint16-4.ensures.bytes,
      c.in_ok-push_uint16-3.ensures.bytes,
      c.in_ok-push_uint16-2.ensures.bytes,
      c.in_ok-push_uint16.ensures.bytes,
      c.in_ok-push_uint32.ensures.bytes,
    )
    (simp append_assoc))
