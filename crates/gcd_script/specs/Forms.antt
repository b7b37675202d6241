-- What the words of a line mean, by its first word.
use Rattle.std.specs.Prelude.{ℕ, List, [], ◌∷◌, Err}
use Rattle.std.specs.Option.{option_map_or}
use Rattle.gcd_script.specs.declared.keyword.Keyword.{Keyword}
use Rattle.gcd_script.specs.declared.keyword.Keyword.TheVariants.{File, Queue, Group, Semaphore, Source, Cancelled, Until, Block, Handler, Main, Submit, GroupSubmit, OneObject, Limited, Target, Merge, Intake, Strip, Apply, OneBlock, NotifyBlock}
use Rattle.gcd_script.specs.declared.line.Line.{Line}
use Rattle.gcd_script.specs.declared.refusal.Refusal.TheVariants.{NoForm}
use Rattle.gcd_script.specs.Acts.{act_line, submit_act, group_submit_act, object_act, limited_act, target_act, merge_act, apply_act, block_act, notify_block_act}
use Rattle.gcd_script.specs.Declarations.{file_line, queue_line, group_line, semaphore_line, source_line, cancelled_line, until_line, block_line, handler_line, main_line, intake_line, strip_line}
use Rattle.gcd_script.specs.Drafts.{DraftView}
use Rattle.gcd_script.specs.Keywords.{keyword_of}
use Rattle.gcd_script.specs.Meant.{Meant}

-- by the words after a known first one
abbrev pub line_by : DraftView → List (List ℕ) → Keyword → Meant (Line (List ℕ))
line_by d words File = file_line d.plan words
line_by d words Queue = queue_line d.plan words
line_by d words Group = group_line d.plan words
line_by d words Semaphore = semaphore_line d.plan words
line_by d words Source = source_line d.plan words
line_by d words Cancelled = cancelled_line d.plan words
line_by d words Until = until_line d.has_until words
line_by d words Block = block_line d.plan words
line_by d words Handler = handler_line d.plan words
line_by d words Main = main_line d.has_main words
line_by d words (Submit how) = act_line d.body (submit_act d.plan how words)
line_by d words (GroupSubmit how) = act_line d.body (group_submit_act d.plan how words)
line_by d words (OneObject what) = act_line d.body (object_act d.plan what words)
line_by d words (Limited what) = act_line d.body (limited_act d.plan what words)
line_by d words Target = act_line d.body (target_act d.plan words)
line_by d words Merge = act_line d.body (merge_act d.plan words)
line_by d words Intake = intake_line d.plan words
line_by d words Strip = strip_line d.plan words
line_by d words Apply = act_line d.body (apply_act d.plan words)
line_by d words (OneBlock what) = act_line d.body (block_act d.plan what words)
line_by d words NotifyBlock = act_line d.body (notify_block_act d.plan words)

-- what all words together mean
abbrev pub form_of : DraftView → List (List ℕ) → Meant (Line (List ℕ))
form_of d [] = Err NoForm
form_of d (first ∷ words) = option_map_or (line_by d words) (keyword_of first) (Err NoForm)
