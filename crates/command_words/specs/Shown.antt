-- A command without where its words lie in memory.
use Rattle.std.specs.Prelude.{◌≤◌}
use Rattle.command_words.specs.Commands.{Build, Inspect, Sample, building, inspecting, sampling}
use Rattle.command_words.specs.Commands.{place_of, Command as SeenCommand}
use Rattle.command_words.specs.declared.command.BuildCommand.{BuildCommand}
use Rattle.command_words.specs.declared.command.InspectCommand.{InspectCommand}
use Rattle.command_words.specs.declared.command.SampleCommand.{SampleCommand}
use Rattle.command_words.specs.declared.command.Command.{Command}
use Rattle.command_words.specs.declared.command.Command.TheVariants as commands

abbrev pub shown : BuildCommand → Build
shown command = record { source = command.source.now; output = command.output.now }

abbrev pub shown_inspect : InspectCommand → Inspect
shown_inspect command = record {
  font = command.font.now;
  glyph = command.glyph;
  index = command.index;
  place = place_of command.place.now;
}

abbrev pub shown_sample : SampleCommand → Sample
shown_sample command = record {
  seed = command.seed;
  glyphs = command.glyphs;
  output = command.output.now;
  writes_text = command.writes_text;
}

abbrev pub shown_command : Command → SeenCommand
shown_command (commands.Build command) = building (shown command)
shown_command (commands.Inspect command) = inspecting (shown_inspect command)
shown_command (commands.Sample command) = sampling (shown_sample command)

-- a sample has a glyph or more, and not more than can be made
abbrev pub IsMakeable : SampleCommand → Type 0
IsMakeable command = (1 ≤ command.glyphs) × (command.glyphs ≤ 60000)

abbrev pub IsRunnable : Command → Type 0
IsRunnable (commands.Build command) = Unit {0}
IsRunnable (commands.Inspect command) = Unit {0}
IsRunnable (commands.Sample command) = IsMakeable command
