use Rattle.std.proofs.Common.{rules, ℕ, ◌≡◌, ◌∙◌, ◌≤◌, List, length, Option, None, Some, Result, Ok, Err, OnOk, IfErr, refl, sym, subst, ap, true, false}
use Rattle.std.specs.Option.{option_map}
use Rattle.disk_model.specs.Calls.{DiskCall}
use Rattle.disk_model.specs.declared.answer.DiskDone.{DiskDone}
use Rattle.disk_model.specs.declared.answer.DiskDone.TheVariants.{Done, Failed}
use Rattle.journal.specs.Mounting.{IsFound, IsTold, RanForFile, RanUpTo}
use Rattle.journal.specs.Plans.{Step, RanOn, begin_plan, mount_plan, read_plan, write_plan}
use Rattle.journal.specs.Putting.{is_done}
use Rattle.journal.specs.declared.fault.MountFault.{MountFault}
use Rattle.journal.specs.declared.fault.MountFault.TheVariants.{DiskFailed}
use Rattle.journal.proofs.FileEnds.{mounts}
use Rattle.journal.proofs.Planning.{begun_plan, ran_mount, up_to_short}
use Rattle.journal.proofs.opening.open_file.Goals as goal

on_ok_map : {A E : Type 0} (r : Result A E) (P Q : Type 0) → (P → Q) → OnOk r P → OnOk r Q
on_ok_map (Ok a) P Q f p = f p
on_ok_map (Err e) P Q f p = tt

if_err_map : {A E : Type 0} (r : Result A E) (P Q : E → Type 0) → ((e : E) → P e → Q e) → IfErr r P → IfErr r Q
if_err_map (Ok a) P Q f p = tt
if_err_map (Err e) P Q f p = f e p

pub returns-in_err-found-clause-fault : goal.returns-in_err-found-clause-fault
returns-in_err-found-clause-fault g c =
    let calls = g.D.Disk.calls in
    let makes = g.D.Disk.makes in
    let old = c.args.disk.now in
    let new = c.read_back.new.disk in
    let seen = g.D.Disk.seen in
    let fault = c.in_err-found.field-0.0 in
    let is : c.from_residual.result ≡ Err fault = search rules in
    let f = c.in_err-found.ensures.fault in
    let so : RanForFile seen calls makes mount_plan (Some fault) old new = (f.1.0, f.1.1, up_to_short calls makes fault (read_plan (length f.1.0)) (write_plan f.1.0) old new f.0 f.1.2) in
    subst (λ (r : Result _ _). IfErr r (λ fault. RanForFile seen calls makes mount_plan (Some fault) old new)) (sym is) so

module _ {D : Type 0} (seen : D → Option (List ℕ)) (calls : D → Option (List DiskCall)) (makes : D → DiskCall → D → Type 0) (fault : Option MountFault) (found : Option (List ℕ)) (file : List ℕ) (a b c : D) (same : IsFound found file) (told : IsTold (seen a) file) (read : RanOn calls makes (read_plan (length file)) a b true) where
  -- a whole file, of which these are the bytes
  whole : (bytes : List ℕ) → found ≡ Some bytes → RanUpTo calls makes fault (write_plan bytes) b c → RanForFile seen calls makes mount_plan fault a c
  whole bytes is ran =
      let here : IsFound (Some bytes) file = subst (λ (o : Option (List ℕ)). IsFound o file) is same in
      (file, told, ran_mount calls makes fault file a b c read (subst (λ (f : List ℕ). RanUpTo calls makes fault (write_plan f) b c) here.0 ran))

  -- a new file
  fresh : found ≡ None → RanUpTo calls makes fault begin_plan b c → RanForFile seen calls makes mount_plan fault a c
  fresh is ran =
      let few : IsFound None file = subst (λ (o : Option (List ℕ)). IsFound o file) is same in
      (file, told, ran_mount calls makes fault file a b c read (subst (λ (plan : List Step). RanUpTo calls makes fault plan b c) (begun_plan file few) ran))

pub returns-in-Some-clause-calls : goal.returns-in-Some-clause-calls
returns-in-Some-clause-calls g c =
    let f = c.in_ok-found.ensures.found in
    let is = ap (option_map (λ bytes. bytes.items)) c.in-Some.is ∙ ap Some (sym c.deref.ensures.value) in
    on_ok_map c.open_old.result _ _ (λ ran. whole g.D.Disk.seen g.D.Disk.calls g.D.Disk.makes None _ f.0 c.args.disk.now c.read_back.new.disk c.open_old.new.disk f.2 f.1 f.3 c.deref.result.now is ran) c.open_old.ensures.calls

pub returns-in-Some-clause-fault : goal.returns-in-Some-clause-fault
returns-in-Some-clause-fault g c =
    let f = c.in_ok-found.ensures.found in
    let is = ap (option_map (λ bytes. bytes.items)) c.in-Some.is ∙ ap Some (sym c.deref.ensures.value) in
    if_err_map c.open_old.result _ _ (λ fault ran. whole g.D.Disk.seen g.D.Disk.calls g.D.Disk.makes (Some fault) _ f.0 c.args.disk.now c.read_back.new.disk c.open_old.new.disk f.2 f.1 f.3 c.deref.result.now is ran) c.open_old.ensures.fault

pub returns-in-Done-clause-any_moment : goal.returns-in-Done-clause-any_moment
returns-in-Done-clause-any_moment g c = mounts g.D.Disk.moment g.D.Disk.left c.args.disk.now c.read_back.new.disk c.begin_file.new.disk c.read_back.ensures.any_moment c.begin_file.ensures.any_moment

pub returns-in-Done-clause-calls : goal.returns-in-Done-clause-calls
returns-in-Done-clause-calls g c =
    let f = c.in_ok-found.ensures.found in
    let ran : RanOn g.D.Disk.calls g.D.Disk.makes begin_plan c.read_back.new.disk c.begin_file.new.disk true = subst (λ (a : DiskDone). RanOn g.D.Disk.calls g.D.Disk.makes begin_plan c.read_back.new.disk c.begin_file.new.disk (is_done a)) c.in-Done.is c.begin_file.ensures.calls in
    fresh g.D.Disk.seen g.D.Disk.calls g.D.Disk.makes None _ f.0 c.args.disk.now c.read_back.new.disk c.begin_file.new.disk f.2 f.1 f.3 (ap (option_map (λ bytes. bytes.items)) c.in-None.is) ran

pub returns-in-Failed-clause-fault : goal.returns-in-Failed-clause-fault
returns-in-Failed-clause-fault g c =
    let f = c.in_ok-found.ensures.found in
    let ran : RanOn g.D.Disk.calls g.D.Disk.makes begin_plan c.read_back.new.disk c.begin_file.new.disk false = subst (λ (a : DiskDone). RanOn g.D.Disk.calls g.D.Disk.makes begin_plan c.read_back.new.disk c.begin_file.new.disk (is_done a)) c.in-Failed.is c.begin_file.ensures.calls in
    fresh g.D.Disk.seen g.D.Disk.calls g.D.Disk.makes (Some DiskFailed) _ f.0 c.args.disk.now c.read_back.new.disk c.begin_file.new.disk f.2 f.1 f.3 (ap (option_map (λ bytes. bytes.items)) c.in-None.is) ran
