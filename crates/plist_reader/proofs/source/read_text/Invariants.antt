-- what the characters that are left make of the reader is what all make of a new one
use Rattle.std.proofs.Common.{◌≡◌, ◌+◌, length, drop}
use Rattle.std.specs.Str.{chars, encode_utf8_all}
use Rattle.plist_reader.specs.Reading.{run, start}
use Rattle.plist_reader.proofs.source.read_text.Given as goal

abbrev pub invariant-loop-character : goal.invariant-loop-character
invariant-loop-character l =
    (l.place + length (encode_utf8_all (drop (length l.yielded) (chars l.text))) ≡ length l.text)
    × (run l.reader l.place (drop (length l.yielded) (chars l.text)) ≡ run start 0 (chars l.text))
