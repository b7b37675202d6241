use Rattle.gcd_plan.proofs.Planned.{plan_from_checks}
use Rattle.gcd_plan.proofs.validity.check_parts.Goals as goal

pub returns-clause-fits : goal.returns-clause-fits
returns-clause-fits c =
    plan_from_checks c.args.parts.now (record {
      root = c.in_ok-check_first.ensures.root;
      main = c.in_ok-check_first.ensures.main;
      idle = c.in_ok-check_first.ensures.idle;
      limits = c.in_ok-check_limits.ensures.fits;
      until = c.in_ok-check_until.ensures.fits;
      new = record {
        files = c.in_ok-check_file_names.ensures.fits;
        objects = c.in_ok-check_object_names.ensures.fits;
        strips = c.in_ok-check_strip_names.ensures.fits;
        blocks = c.in_ok-check_block_names.ensures.fits;
      };
      objects = c.in_ok-check_objects.ensures.fits;
      blocks = c.in_ok-check_blocks.ensures.fits;
      files = c.in_ok-check_files.ensures.fits;
      intake = c.in_ok-check_intake.ensures.fits;
      strips = c.in_ok-check_strips.ensures.fits;
      apart = c.in_ok-check_apart.ensures.fits;
      targets = c.in_ok-check_targets.ensures.fits;
      once = c.in_ok-check_submissions.ensures.fits;
    })
