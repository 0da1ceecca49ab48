use Rattle.std.proofs.Common.{inl, refl, rules, subst, ap, sym, ◌∙◌, ◌≡◌, ◌≢◌, List, ℕ, take, Result, Err, IfErr, true, Some}
use Rattle.disk_model.proofs.Moments.{starts}
use Rattle.journal.specs.Mounting.{RanUpTo}
use Rattle.journal.specs.Plans.{Step, RanOn, write_plan}
use Rattle.journal.specs.Records.{header}
use Rattle.journal.specs.declared.fault.MountFault.TheVariants.{NoMemory}
use Rattle.journal.proofs.Planning.{other_plan, ran_none, up_to_nothing}
use Rattle.journal.proofs.opening.open_old.Goals as goal

pub returns-then-ne-clause-any_moment : goal.returns-then-ne-clause-any_moment
returns-then-ne-clause-any_moment g c = starts g.D.Disk.moment g.D.Disk.left c.args.disk.now _ (λ image is. (image, is, inl refl))

pub returns-then-ne-clause-fault : goal.returns-then-ne-clause-fault
returns-then-ne-clause-fault g c =
    let disk = c.args.disk.now in
    let other : take 8 c.args.file.now ≢ header = search rules in
    subst (λ (plan : List Step). RanOn g.D.Disk.calls g.D.Disk.makes plan disk disk true) (other_plan c.args.file.now c.requires.long other) (ran_none g.D.Disk.calls g.D.Disk.makes disk)

pub returns-in_err-bodies-clause-any_moment : goal.returns-in_err-bodies-clause-any_moment
returns-in_err-bodies-clause-any_moment g c = starts g.D.Disk.moment g.D.Disk.left c.args.disk.now _ (λ image is. (image, is, inl refl))

pub returns-in_err-bodies-clause-fault : goal.returns-in_err-bodies-clause-fault
returns-in_err-bodies-clause-fault g c =
    let disk = c.args.disk.now in
    let is : c.from_residual.result ≡ Err NoMemory = search rules in
    subst (λ (r : Result _ _). IfErr r (λ fault. RanUpTo g.D.Disk.calls g.D.Disk.makes (Some fault) (write_plan c.args.file.now) disk disk)) (sym is) (up_to_nothing g.D.Disk.calls g.D.Disk.makes (write_plan c.args.file.now) disk)
