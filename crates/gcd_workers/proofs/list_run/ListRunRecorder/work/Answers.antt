use Rattle.std.proofs.Common.{refl, arith}
use Rattle.gcd_history.proofs.Public.Laws.{choice_is_permitted}
use Rattle.gcd_loop.proofs.Events.{work_accepts_none}
use Rattle.gcd_loop.proofs.Steps.{grown, grown_same, grows_one}
use Rattle.gcd_machine.proofs.Views.Calls.{lawful_stands}
use Rattle.gcd_workers.specs.ListRuns.{kept_sight}
use Rattle.gcd_workers.proofs.Opened.{stops_at_start}
use Rattle.gcd_workers.proofs.list_run.ListRunRecorder.work.Goals as goal

pub record-requires-clause-next : goal.record-requires-clause-next
record-requires-clause-next g c =
    let run = c.args.self.now in
    let choice = choice_is_permitted run.over.plan.now run.kept.journal.items 0 0 c.args.e c.requires.chosen in
    record { permitted = choice.permitted; room = c.requires.room.room; by = choice.by; chosen = λ work. c.requires.chosen; no_job = work_accepts_none c.args.e choice.work }

pub returns-clause-grown : goal.returns-clause-grown
returns-clause-grown g c =
    let over = c.args.self.now.over in
    let h = c.args.self.now.kept.journal.items in
    let new = c.record.new.self in
    let choice = choice_is_permitted over.plan.now h 0 0 c.args.e c.requires.chosen in
    grown over.most over.plan.now h new.journal.items new.machine (kept_sight over new c.record.ensures.run)
    (grows_one h new.journal.items c.args.e c.in_ok-record.ensures.journal choice.work)

pub returns-then-stops-clause-after : goal.returns-then-stops-clause-after
returns-then-stops-clause-after g c =
    let run = c.args.self.now in let plan = run.over.plan.now in let h = run.kept.journal.items in
    let ready = c.requires.ready in
    let choice = choice_is_permitted plan h 0 0 c.args.e c.requires.chosen in
    let most = c.stops.ensures.most in
    let more = c.stops.ensures.some c.if-stops.true in (
      (
        ready,
        stops_at_start plan h c.args.e (lawful_stands run.kept.machine plan h ready.stands) (c.stops.ensures.start c.if-stops.true) choice.permitted choice.by,
        omega (arith, most, more),
      ),
      refl,
    )

pub returns-then-stops-clause-grown : goal.returns-then-stops-clause-grown
returns-then-stops-clause-grown g c =
    let run = c.args.self.now in
    let h = run.kept.journal.items in
    grown_same run.over.most run.over.plan.now h h run.kept.machine (kept_sight run.over run.kept c.requires.ready) refl
