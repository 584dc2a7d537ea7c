use Rattle.std.proofs.Common.{◌≡◌, sym, ◌∙◌}
use Rattle.lock_entry.proofs.Arguments.{fits-Decides}
use Rattle.lock_entry.specs.Argument.{fits, Fits}
use Rattle.lock_entry.proofs.argument.fits_key.Goals as goal

pub returns-clause-test : goal.returns-clause-test
returns-clause-test c = rw c.bytes.ensures.same at c.all_fit.ensures

pub returns-clause-fits : goal.returns-clause-fits
returns-clause-fits c =
    let test : c.all_fit.result ≡ fits c.args.key.now c.args.p.now = returns-clause-test c in
    let d = fits-Decides c.args.key.now c.args.p.now in
    (λ h. d.0 (sym test ∙ h), λ (f : Fits c.args.key.now c.args.p.now). test ∙ d.1 f)
