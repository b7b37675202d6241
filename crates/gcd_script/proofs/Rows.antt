-- Worked rows of the grammar: each text that is none of a script with its first line at fault and its code, and the plan of
-- a script with each kind of line.
use Rattle.std.proofs.Common.{◌≡◌, [], ◌∷◌, ◌++◌, Some, None, refl, codes, replicate, true, false}
use Rattle.std.specs.Fmt.{digits}
use Rattle.gcd_plan.specs.PlanView.{PlanView}
use Rattle.gcd_plan.specs.Validity.{root_view}
use Rattle.gcd_plan.specs.declared.act.Act.TheVariants.{Apply, Async, Signal}
use Rattle.gcd_plan.specs.declared.kind.Kind.TheVariants.{Serial, Semaphore, Timer}
use Rattle.gcd_plan.specs.declared.work.How.TheVariants.{Count, Sum}
use Rattle.gcd_builder.specs.Names.{meaning_of}
use Rattle.gcd_script.specs.Faults.{fault_of, IsScriptOf}

each_form : fault_of (codes "# each form\n\nfile f p/a.txt\nqueue q serial\nqueue c concurrent inactive\nqueue r serial on c\nqueue d concurrent on r inactive\ngroup g\nsemaphore s 0\nsource a add on q\nsource o or on root\nsource t timer 1 86400000 on q\nsource i read tcp on q\nuntil 86400000\nblock b0\nblock b1 bytes f\nblock b2 lines f 0 16777216\nblock b3 words f\nblock b4 sum f 5 7\nblock b5 count 255 f\nblock b6 count 0 f 1 2\nblock b7\ncancelled t b7\nhandler a\nsignal s\nenter g\nleave g\nsuspend q\nresume q\nactivate c\ntarget d root\nmerge o 2147483647\ncancel t\nretain g\nrelease g\nmain\nasync root b0\nbarrier c b1\nsync q b2\nbarrier_sync c b3\ngroup_async g q b4\nnotify g q b5\ngroup_wait g\nwait s") ≡ None
unfolding digits meaning_of
each_form = refl

main_alone : fault_of (codes "main") ≡ None
unfolding digits meaning_of
main_alone = refl

spaces_and_comments : fault_of (codes "  queue  q   serial \nblock b\n#\n   # a  b c d e f g h i j\n\n  \nmain\nasync q b\n") ≡ None
unfolding digits meaning_of
spaces_and_comments = refl

own_block : fault_of (codes "queue q serial\nblock c\nblock b\nasync q b\nmain\n") ≡ None
unfolding digits meaning_of
own_block = refl

handler_without_acts : fault_of (codes "source s add on root\nhandler s\nmain\nblock b\ncancelled s b\n") ≡ None
unfolding digits meaning_of
handler_without_acts = refl

files_and_until : fault_of (codes "file f p\nfile g p\nuntil 1\nmain\n") ≡ None
unfolding digits meaning_of
files_and_until = refl

empty : fault_of (codes "") ≡ Some (1, 9)
unfolding digits meaning_of
empty = refl

not_declared : fault_of (codes "queue q serial\nmain\nasync r b") ≡ Some (3, 3)
unfolding digits meaning_of
not_declared = refl

root_declared : fault_of (codes "queue root serial") ≡ Some (1, 2)
unfolding digits meaning_of
root_declared = refl

merge_of_a_feed : fault_of (codes "source s read f on root\nmain\nmerge s 1") ≡ Some (3, 4)
unfolding digits meaning_of
merge_of_a_feed = refl

minus : fault_of (codes "semaphore s -1") ≡ Some (1, 5)
unfolding digits meaning_of
minus = refl

submitted_twice : fault_of (codes "block b\nmain\nasync root b\nasync root b") ≡ Some (4, 6)
unfolding digits meaning_of
submitted_twice = refl

wait_in_a_handler : fault_of (codes "semaphore m 0\nsource s add on root\nhandler s\nwait m\nmain") ≡ Some (4, 7)
unfolding digits meaning_of
wait_in_a_handler = refl

second_main : fault_of (codes "main\nmain") ≡ Some (2, 9)
unfolding digits meaning_of
second_main = refl

act_outside : fault_of (codes "signal s") ≡ Some (1, 1)
unfolding digits meaning_of
act_outside = refl

until_low : fault_of (codes "until 0") ≡ Some (1, 5)
unfolding digits meaning_of
until_low = refl

until_high : fault_of (codes "until 86400001") ≡ Some (1, 5)
unfolding digits meaning_of
until_high = refl

leading_zeros : fault_of (codes "semaphore s 007") ≡ Some (1, 5)
unfolding digits meaning_of
leading_zeros = refl

value_high : fault_of (codes "semaphore s 2147483648") ≡ Some (1, 5)
unfolding digits meaning_of
value_high = refl

count_high : fault_of (codes "file f p\nblock b count 256 f\nmain") ≡ Some (2, 5)
unfolding digits meaning_of
count_high = refl

lowest_code : fault_of (codes "block main bytes nofile x y") ≡ Some (1, 2)
unfolding digits meaning_of
lowest_code = refl

control_byte : fault_of (codes "main\t") ≡ Some (1, 1)
unfolding digits meaning_of
control_byte = refl

judged_comment : fault_of (codes "main\nblock b\n# a\tb") ≡ Some (3, 1)
unfolding digits meaning_of
judged_comment = refl

carriage_return : fault_of (codes "main\r\n") ≡ Some (1, 1)
unfolding digits meaning_of
carriage_return = refl

long_name : fault_of (codes "group abcdefghijklmnopqrstuvwxyz0123456") ≡ Some (1, 2)
unfolding digits meaning_of
long_name = refl

longest_name : fault_of (codes "group abcdefghijklmnopqrstuvwxyz012345") ≡ Some (2, 9)
unfolding digits meaning_of
longest_name = refl

lines_that_are_skipped : fault_of (codes "group g\n\n# x\n\n") ≡ Some (5, 9)
unfolding digits meaning_of
lines_that_are_skipped = refl

kind : fault_of (codes "queue q parallel") ≡ Some (1, 1)
unfolding digits meaning_of
kind = refl

inactive_word : fault_of (codes "queue q serial active") ≡ Some (1, 1)
unfolding digits meaning_of
inactive_word = refl

on_word : fault_of (codes "queue q serial at root") ≡ Some (1, 1)
unfolding digits meaning_of
on_word = refl

inactive_last : fault_of (codes "queue q serial on root active") ≡ Some (1, 1)
unfolding digits meaning_of
inactive_last = refl

source_kind : fault_of (codes "source s merge on root") ≡ Some (1, 1)
unfolding digits meaning_of
source_kind = refl

source_replace : fault_of (codes "source s replace on root\nmain\nmerge s 0") ≡ None
unfolding digits meaning_of
source_replace = refl

on_of_a_timer : fault_of (codes "source s timer 1 1 at root") ≡ Some (1, 1)
unfolding digits meaning_of
on_of_a_timer = refl

start_without_len : fault_of (codes "file f p\nblock b count 5 f 0") ≡ Some (2, 1)
unfolding digits meaning_of
start_without_len = refl

work_word : fault_of (codes "file f p\nblock b median f") ≡ Some (2, 1)
unfolding digits meaning_of
work_word = refl

two_mains : fault_of (codes "main main") ≡ Some (1, 1)
unfolding digits meaning_of
two_mains = refl

capital : fault_of (codes "Main") ≡ Some (1, 1)
unfolding digits meaning_of
capital = refl

too_many_words : fault_of (codes "block b c d e f g h i") ≡ Some (1, 1)
unfolding digits meaning_of
too_many_words = refl

group_no_body : fault_of (codes "group g\nenter g") ≡ Some (2, 1)
unfolding digits meaning_of
group_no_body = refl

closed_body : fault_of (codes "block b\nqueue q serial\nasync q b") ≡ Some (3, 1)
unfolding digits meaning_of
closed_body = refl

until_twice_x : fault_of (codes "until 5\nuntil x") ≡ Some (2, 2)
unfolding digits meaning_of
until_twice_x = refl

until_twice : fault_of (codes "until 5\nuntil 6\nmain") ≡ Some (2, 2)
unfolding digits meaning_of
until_twice = refl

name_before_kind : fault_of (codes "file b p\nblock b lines c x 0") ≡ Some (2, 2)
unfolding digits meaning_of
name_before_kind = refl

kind_before_number : fault_of (codes "main\nmerge root x") ≡ Some (2, 4)
unfolding digits meaning_of
kind_before_number = refl

unknown_before_number : fault_of (codes "main\nmerge s x") ≡ Some (2, 3)
unfolding digits meaning_of
unknown_before_number = refl

main_used : fault_of (codes "main\nasync main main") ≡ Some (2, 3)
unfolding digits meaning_of
main_used = refl

ill_formed_used : fault_of (codes "block b\nmain\nasync B b") ≡ Some (3, 3)
unfolding digits meaning_of
ill_formed_used = refl

suspend_root : fault_of (codes "main\nsuspend root") ≡ Some (2, 4)
unfolding digits meaning_of
suspend_root = refl

retain_root : fault_of (codes "main\nretain root") ≡ Some (2, 4)
unfolding digits meaning_of
retain_root = refl

suspend_group : fault_of (codes "group g\nmain\nsuspend g") ≡ Some (3, 4)
unfolding digits meaning_of
suspend_group = refl

unknown_target : fault_of (codes "queue q serial on b\nblock b") ≡ Some (1, 3)
unfolding digits meaning_of
unknown_target = refl

cancelled_of_a_block : fault_of (codes "block b\ncancelled b b") ≡ Some (2, 4)
unfolding digits meaning_of
cancelled_of_a_block = refl

handler_twice : fault_of (codes "source s add on root\nhandler s\nblock b\nhandler s") ≡ Some (4, 6)
unfolding digits meaning_of
handler_twice = refl

cancelled_twice : fault_of (codes "source s add on root\nblock b\nblock c\ncancelled s b\ncancelled s c") ≡ Some (5, 6)
unfolding digits meaning_of
cancelled_twice = refl

cancelled_and_submitted : fault_of (codes "source s add on root\nblock b\ncancelled s b\nmain\nasync root b") ≡ Some (5, 6)
unfolding digits meaning_of
cancelled_and_submitted = refl

forward_handler : fault_of (codes "source s add on root\nblock b\nmain\nsync root b\nhandler s\nasync root b") ≡ Some (6, 6)
unfolding digits meaning_of
forward_handler = refl

async_in_a_handler : fault_of (codes "source s add on root\nblock b\nhandler s\nasync root b\nmain") ≡ Some (4, 7)
unfolding digits meaning_of
async_in_a_handler = refl

group_wait_in_a_handler : fault_of (codes "source s add on root\ngroup g\nhandler s\ngroup_wait g") ≡ Some (4, 7)
unfolding digits meaning_of
group_wait_in_a_handler = refl

intake_form : fault_of (codes "queue q serial\nintake q 6\nmain") ≡ None
unfolding digits meaning_of
intake_form = refl

intake_twice : fault_of (codes "intake root 1\nintake root 2\nmain") ≡ Some (2, 2)
unfolding digits meaning_of
intake_twice = refl

intake_of_none : fault_of (codes "intake root 0") ≡ Some (1, 5)
unfolding digits meaning_of
intake_of_none = refl

intake_of_many : fault_of (codes "intake root 4097") ≡ Some (1, 5)
unfolding digits meaning_of
intake_of_many = refl

intake_on_a_group : fault_of (codes "group g\nintake g 1") ≡ Some (2, 4)
unfolding digits meaning_of
intake_on_a_group = refl

intake_block_named : fault_of (codes "intake root 1\nmain\nasync root +1") ≡ Some (3, 3)
unfolding digits meaning_of
intake_block_named = refl

intake_closes : fault_of (codes "main\nintake root 1\nasync root b") ≡ Some (3, 1)
unfolding digits meaning_of
intake_closes = refl

strip_form : fault_of (codes "file f f.txt\nqueue q concurrent\nstrip a bytes f 4 3\nmain\napply q a") ≡ None
unfolding digits meaning_of
strip_form = refl

strip_of_one_value : fault_of (codes "file f f\nstrip a count f 1 1") ≡ Some (2, 1)
unfolding digits meaning_of
strip_of_one_value = refl

strip_of_empty_parts : fault_of (codes "file f f\nstrip a sum f 0 1") ≡ Some (2, 5)
unfolding digits meaning_of
strip_of_empty_parts = refl

strip_of_many : fault_of (codes "file f f\nstrip a sum f 1 16385") ≡ Some (2, 5)
unfolding digits meaning_of
strip_of_many = refl

strip_name_taken : fault_of (codes "file f f\nstrip f sum f 1 1") ≡ Some (2, 2)
unfolding digits meaning_of
strip_name_taken = refl

strip_block_named : fault_of (codes "file f f\nstrip a sum f 1 1\nmain\nasync root a.0") ≡ Some (4, 3)
unfolding digits meaning_of
strip_block_named = refl

strip_submitted : fault_of (codes "file f f\nstrip a sum f 1 1\nmain\nasync root a") ≡ Some (4, 4)
unfolding digits meaning_of
strip_submitted = refl

block_applied : fault_of (codes "block b\nmain\napply root b") ≡ Some (3, 4)
unfolding digits meaning_of
block_applied = refl

empty_strip_twice : fault_of (codes "file f f\nstrip a sum f 1 0\nmain\napply root a\napply root a") ≡ Some (5, 6)
unfolding digits meaning_of
empty_strip_twice = refl

apply_in_a_handler : fault_of (codes "file f f\nstrip a sum f 1 1\nsource s add on root\nhandler s\napply root a") ≡ Some (5, 7)
unfolding digits meaning_of
apply_in_a_handler = refl

block_acts : fault_of (codes "block b\nblock c\nmain\nnotify_block b root c\nwait_block b\ncancel_block b\nwait_block b") ≡ None
unfolding digits meaning_of
block_acts = refl

cancel_block_in_a_handler : fault_of (codes "block b\nsource s add on root\nhandler s\ncancel_block b\nmain") ≡ None
unfolding digits meaning_of
cancel_block_in_a_handler = refl

wait_block_in_a_handler : fault_of (codes "block b\nsource s add on root\nhandler s\nwait_block b") ≡ Some (4, 7)
unfolding digits meaning_of
wait_block_in_a_handler = refl

notify_block_in_a_handler : fault_of (codes "block b\nsource s add on root\nhandler s\nnotify_block b root b") ≡ Some (4, 7)
unfolding digits meaning_of
notify_block_in_a_handler = refl

noted_and_submitted : fault_of (codes "block b\nblock c\nmain\nasync root c\nnotify_block b root c") ≡ Some (5, 6)
unfolding digits meaning_of
noted_and_submitted = refl

main_awaited : fault_of (codes "main\nwait_block main") ≡ Some (2, 3)
unfolding digits meaning_of
main_awaited = refl

long_path : fault_of (codes "file f " ++ replicate 256 112) ≡ Some (1, 1)
unfolding digits meaning_of
long_path = refl

longest_path : fault_of (codes "file f " ++ replicate 255 112) ≡ Some (2, 9)
unfolding digits meaning_of
longest_path = refl

-- a script with its plan
timed_plan : PlanView
timed_plan = record {
  objects = root_view
      ∷ record { name = codes "q"; kind = Serial; target = record { 0 = 0 }; active = false; path = []; handler = []; cancel = None }
      ∷ record { name = codes "s"; kind = Semaphore 2; target = record { 0 = 0 }; active = true; path = []; handler = []; cancel = None }
      ∷ record { name = codes "t"; kind = Timer 10 5; target = record { 0 = 1 }; active = false; path = []; handler = Signal (record { 0 = 2 }) ∷ []; cancel = Some (record { 0 = 1 }) }
      ∷ [];
  blocks = record { name = codes "main"; acts = Async (record { 0 = 1 }) (record { 0 = 2 }) ∷ []; work = None }
      ∷ record { name = codes "b"; acts = []; work = None }
      ∷ record { name = codes "c"; acts = []; work = Some (record { how = Count 7; file = 0; start = 1; len = 2 }) }
      ∷ [];
  files = record { name = codes "f"; path = codes "p/q"; line = 2 } ∷ [];
  until = 21;
  intake = None;
  strips = [];
}

timed : IsScriptOf (codes "# a timer\n file  f p/q\nqueue q serial inactive\nsemaphore s 2\nsource t timer 10 5 on q\nblock b\ncancelled t b\nblock c count 7 f 1 2\nuntil 21\nhandler t\nsignal s\nmain\nasync q c") timed_plan
unfolding digits timed_plan meaning_of
timed = refl

-- a script with an intake and a strip, and their blocks
made_plan : PlanView
made_plan = record {
  objects = root_view ∷ [];
  blocks = record { name = codes "main"; acts = Apply (record { 0 = 0 }) 0 ∷ []; work = None }
      ∷ record { name = codes "+1"; acts = []; work = None }
      ∷ record { name = codes "+2"; acts = []; work = None }
      ∷ record { name = codes "a.0"; acts = []; work = Some (record { how = Sum; file = 0; start = 0; len = 16777216 }) }
      ∷ record { name = codes "a.1"; acts = []; work = Some (record { how = Sum; file = 0; start = 16777216; len = 16777216 }) }
      ∷ record { name = codes "a.2"; acts = []; work = Some (record { how = Sum; file = 0; start = 16777216; len = 16777216 }) }
      ∷ [];
  files = record { name = codes "f"; path = codes "p"; line = 1 } ∷ [];
  until = 1000;
  intake = Some (record { queue = record { 0 = 0 }; first = 1; count = 2 });
  strips = record { name = codes "a"; how = Sum; file = 0; len = 16777216; first = 3; count = 3 } ∷ [];
}

made : IsScriptOf (codes "file f p\nintake root 2\nstrip a sum f 16777216 3\nmain\napply root a") made_plan
unfolding digits made_plan meaning_of
made = refl
