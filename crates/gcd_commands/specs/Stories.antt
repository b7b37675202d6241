-- An answer of the code as a way to end.
use Rattle.gcd_commands.specs.End.{End}
use Rattle.gcd_commands.specs.declared.story.Story.{Story}

abbrev pub end_of : Story → End
end_of s = record { status = s.status; journal = s.journal.items; at = s.at; text = s.text.items }
