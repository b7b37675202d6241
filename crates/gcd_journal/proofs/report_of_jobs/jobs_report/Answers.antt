use Rattle.gcd_machine.proofs.Views.Calls.{lawful_stands}
use Rattle.gcd_journal.proofs.report_of_jobs.jobs_report.Goals as goal

pub totals_by-requires-clause-lawful : goal.totals_by-requires-clause-lawful
totals_by-requires-clause-lawful c = lawful_stands c.args.machine.now c.args.plan.now c.args.events.now c.requires
