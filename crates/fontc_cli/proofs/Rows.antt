-- What a run prints, whole, for a run of each kind.
use Rattle.std.proofs.Common.{◌≡◌, pos, negsuc, [], ◌∷◌, ◌++◌, refl}
use Rattle.std.specs.Prelude.{codes}
use Rattle.std.specs.Fmt.{digits}
use Rattle.font_reader.specs.declared.faults.FaultKind.TheVariants.{NotSfnt}
use Rattle.refusal_codes.specs.declared.rule.Rule.TheVariants.{CubicNode, UnexpectedEnd}
use Rattle.fontc_cli.specs.Lines.{lines_of, wrote, sample_line, point_line}
use Rattle.fontc_cli.specs.declared.status.Status.TheVariants.{Done, Usage, Refused, BadFont}
use Rattle.fontc_cli.specs.declared.status.Status.TheVariants.{ReadFault, WriteFault, ConsoleFault}
use Rattle.fontc_cli.specs.declared.status.Status.TheVariants.{NoMemory}

the_triangle : lines_of (wrote 280) Done ≡ codes "wrote 280 bytes" ++ 10 ∷ []
unfolding digits
the_triangle = refl

the_triangle_unsaid : lines_of (wrote 280) ConsoleFault ≡ codes "wrote 280 bytes" ++ 10 ∷ []
unfolding digits
the_triangle_unsaid = refl

no_command : lines_of [] Usage ≡ codes "usage: fontc build IN OUT" ++ 10
    ∷ codes "usage: fontc inspect point FONT GID INDEX COORDS" ++ 10
    ∷ codes "usage: fontc sample SEED GLYPHS OUT [--source]" ++ 10 ∷ []
no_command = refl

-- a sample's font, and a sample's text
a_sample : lines_of (sample_line 7 1 1084 26) Done ≡ codes "sample 7 1: 1084 bytes, 26 jobs"
    ++ 10 ∷ []
unfolding digits
a_sample = refl

a_sample_text : lines_of (sample_line 7 1 441 0) Done ≡ codes "sample 7 1: 441 bytes, 0 jobs"
    ++ 10 ∷ []
unfolding digits
a_sample_text = refl

a_cubic_node : lines_of [] (Refused (record {
  stratum = 1;
  kind = 3;
  name = codes "A";
  rule = CubicNode;
  place = 181;
})) ≡ codes "fontc: G2 CubicNode Raw A at 181" ++ 10 ∷ []
unfolding digits
a_cubic_node = refl

an_empty_source : lines_of [] (Refused (record {
  stratum = 0;
  kind = 0;
  name = [];
  rule = UnexpectedEnd;
  place = 0;
})) ≡ codes "fontc: P3 UnexpectedEnd Tree at 0" ++ 10 ∷ []
unfolding digits
an_empty_source = refl

no_font : lines_of [] (BadFont (record { place = 0; kind = NotSfnt }))
    ≡ codes "fontc: bad font: NotSfnt at 0" ++ 10 ∷ []
unfolding digits
no_font = refl

a_point : lines_of (point_line (record { x = pos 16711680; y = negsuc 5 })) Done
    ≡ codes "16711680 -6" ++ 10 ∷ []
unfolding digits
a_point = refl

a_failed_read : lines_of [] ReadFault ≡ codes "fontc: read fault" ++ 10 ∷ []
a_failed_read = refl

a_failed_write : lines_of [] WriteFault ≡ codes "fontc: write fault" ++ 10 ∷ []
a_failed_write = refl

out_of_memory : lines_of [] NoMemory ≡ []
out_of_memory = refl
