use Rattle.std.proofs.Common.{rules, ℕ, ◌≡◌, ◌≤◌, ◌<◌, List, length, Option, Some, IfErr, Result, Err, refl, sym, subst, arith, true}
use Rattle.disk_model.specs.declared.answer.DiskLen.{DiskLen}
use Rattle.disk_model.specs.declared.answer.DiskLen.TheVariants.{Len, Failed}
use Rattle.disk_model.specs.Disk.{IsLength}
use Rattle.journal.specs.Mounting.{IsReadFault, IsTold, RanForFile, RanToLength, RanUpTo}
use Rattle.journal.specs.Plans.{RanOn, read_plan}
use Rattle.journal.proofs.Planning.{ran_long_file, ran_no_length, ran_short_file, told_any, told_of, up_to_long_file}
use Rattle.journal.proofs.reading_back.read_back.Goals as goal

pub returns-in_err-read_whole-in-Len-2-clause-fault : goal.returns-in_err-read_whole-in-Len-2-clause-fault
returns-in_err-read_whole-in-Len-2-clause-fault g c =
    let calls = g.D.Disk.calls in
    let makes = g.D.Disk.makes in
    let old = c.args.disk.now in
    let mid = c.measure.new.disk in
    let new = c.read_whole.new.disk in
    let seen = g.D.Disk.seen in
    let len = c.in-Len.len in
    let more : 8 < len = search rules in
    let told : IsLength (Len len) (seen old) = subst (λ (a : DiskLen). IsLength a (seen old)) c.in-Len.is c.measure.ensures.len in
    let ran : RanToLength calls makes (Len len) old mid = subst (λ (a : DiskLen). RanToLength calls makes a old mid) c.in-Len.is c.measure.ensures.calls in
    let file = told_of (seen old) len told in
    let fault = c.in_err-read_whole-in-Len-2.field-0.0 in
    let is : c.from_residual.result ≡ Err fault = search rules in
    let so : IsReadFault fault × RanForFile seen calls makes (λ file. read_plan (length file)) (Some fault) old new = (
      c.in_err-read_whole-in-Len-2.ensures.fault.0,
      (
        file.0,
        file.1,
        subst (λ (n : ℕ). RanUpTo calls makes (Some fault) (read_plan n) old new) (sym file.2) (up_to_long_file calls makes fault len old mid new more ran c.in_err-read_whole-in-Len-2.ensures.fault.1),
      ),
    ) in
    subst (λ (r : Result _ _). IfErr r (λ fault. IsReadFault fault × RanForFile seen calls makes (λ file. read_plan (length file)) (Some fault) old new)) (sym is) so

pub returns-in-Failed-clause-fault : goal.returns-in-Failed-clause-fault
returns-in-Failed-clause-fault g c =
    let calls = g.D.Disk.calls in
    let makes = g.D.Disk.makes in
    let old = c.args.disk.now in
    let new = c.measure.new.disk in
    let file = told_any (g.D.Disk.seen old) in
    let ran : RanToLength calls makes Failed old new = subst (λ (a : DiskLen). RanToLength calls makes a old new) c.in-Failed.is c.measure.ensures.calls in
    (tt, (file.0, file.1, ran_no_length calls makes (length file.0) old new (ran (length file.0))))

pub returns-in-Len-clause-found : goal.returns-in-Len-clause-found
returns-in-Len-clause-found g c =
    let calls = g.D.Disk.calls in
    let makes = g.D.Disk.makes in
    let old = c.args.disk.now in
    let new = c.measure.new.disk in
    let seen = g.D.Disk.seen old in
    let len = c.in-Len.len in
    let few : len ≤ 8 = search rules in
    let told : IsLength (Len len) seen = subst (λ (a : DiskLen). IsLength a seen) c.in-Len.is c.measure.ensures.len in
    let ran : RanToLength calls makes (Len len) old new = subst (λ (a : DiskLen). RanToLength calls makes a old new) c.in-Len.is c.measure.ensures.calls in
    let file = told_of seen len told in
    (file.0, file.1, omega (arith, few, file.2), subst (λ (n : ℕ). RanOn calls makes (read_plan n) old new true) (sym file.2) (ran_short_file calls makes len old new true few ran))

pub returns-in_ok-read_whole-in-Len-2-clause-found : goal.returns-in_ok-read_whole-in-Len-2-clause-found
returns-in_ok-read_whole-in-Len-2-clause-found g c =
    let calls = g.D.Disk.calls in
    let makes = g.D.Disk.makes in
    let old = c.args.disk.now in
    let mid = c.measure.new.disk in
    let new = c.read_whole.new.disk in
    let len = c.in-Len.len in
    let more : 8 < len = search rules in
    let ran : RanToLength calls makes (Len len) old mid = subst (λ (a : DiskLen). RanToLength calls makes a old mid) c.in-Len.is c.measure.ensures.calls in
    let read = c.in_ok-read_whole-in-Len-2.ensures in
    let bytes = c.in_ok-read_whole-in-Len-2.field-0.items in (
      bytes,
      subst (λ (seen : Option (List ℕ)). IsTold seen bytes) c.measure.ensures.seen read.ok.0,
      (refl, omega (arith, more, read.ok.1)),
      subst (λ (n : ℕ). RanOn calls makes (read_plan n) old new true) (sym read.ok.1) (ran_long_file calls makes len old mid new true more ran read.calls),
    )
