use Rattle.std.proofs.Common.{ℕ, ◌≡◌, ◌==◌, false, Bool, Option, None, Some, refl, ap, arith, if◌then◌else◌}
use Rattle.disk_model.specs.Memory.{armed, with_fail, with_stop}
use Rattle.disk_model.specs.declared.image.Arm.TheVariants as arms
use Rattle.script_text.specs.declared.step.Step.TheVariants.{Seat, Hang, Fault, Stop, Open}
use Rattle.wire_text.specs.Line.{words_of}
use Rattle.replay_world.proofs.Taking.{steps, steps_on}
use Rattle.replay_world.proofs.Worlds.{by_fault, by_stop}
use Rattle.replay_world.proofs.world.World.step.Goals as goal
use Rattle.replay_world.specs.Events.{start_event}
use Rattle.replay_world.specs.Steps.{Stepped, armed_text, hung, says, seated, starts, stopped_text, stops, with_disk}
use Rattle.replay_world.specs.Views.{disk_of, view}
use Rattle.replay_world.specs.World.{halted}

pub returns-in-Seat : goal.returns-in-Seat
returns-in-Seat c = rw c.in-Seat.is (steps_on c.seat.result c.args.self (Seat c.in-Seat.number c.in-Seat.owner c.in-Seat.role) (words_of c.args.line.now) c.args.block.now c.args.out.now.items c.seat.new.out.items (seated (view c.args.self) record { number = c.in-Seat.number; owner = c.in-Seat.owner; role = c.in-Seat.role })
    c.seat.ensures.took c.seat.ensures.journal (λ plain memory. refl) (λ plain. refl))

pub returns-in-Hang : goal.returns-in-Hang
returns-in-Hang c = rw c.in-Hang.is (steps_on c.hang.result c.args.self (Hang c.in-Hang.number) (words_of c.args.line.now) c.args.block.now c.args.out.now.items c.hang.new.out.items (hung (view c.args.self) c.in-Hang.number)
    c.hang.ensures.took c.hang.ensures.journal (λ plain memory. refl) (λ plain. refl))

pub returns-in-Fault : goal.returns-in-Fault
returns-in-Fault c = let later : c.in-Fault.k ≡ 0 → ⊥ = (rw c.in-Fault.is at c.in-Fault.k-test).1 in rw c.in-Fault.is (steps_on c.arm.result c.args.self (Fault c.in-Fault.k) (words_of c.args.line.now) c.args.block.now c.args.out.now.items c.arm.new.out.items (Some (says (with_disk (view c.args.self) (armed (arms.Fail c.in-Fault.k) (disk_of c.args.self.machine))) armed_text))
    c.arm.ensures.took c.arm.ensures.journal (λ plain memory. by_fault (view c.args.self) c.in-Fault.k later) (λ plain. refl))

pub returns-in-Stop-eq0-default : goal.returns-in-Stop-eq0-default
returns-in-Stop-eq0-default c =
    let now : c.in-Stop-eq0-default.field-0 ≡ 0 = rw c.in-Stop-eq0-default.is at c.in-Stop-eq0-default.field-0-test in
    rw c.in-Stop-eq0-default.is (steps_on c.stop.result c.args.self (Stop c.in-Stop-eq0-default.field-0 c.in-Stop-eq0-default.image) (words_of c.args.line.now) c.args.block.now c.args.out.now.items c.stop.new.out.items
    (Some (stops (view c.args.self) 0 c.in-Stop-eq0-default.image)) c.stop.ensures.took c.stop.ensures.journal
    (λ plain memory. ap (λ (k : ℕ). let s : Option Stepped = Some (stops (view c.args.self) k c.in-Stop-eq0-default.image) in s) now) (λ plain. refl))

pub returns-in-Stop : goal.returns-in-Stop
returns-in-Stop c = let later : c.in-Stop.k ≡ 0 → ⊥ = (rw c.in-Stop.is at c.in-Stop.k-test).1 in rw c.in-Stop.is (steps_on c.arm-in-Stop.result c.args.self (Stop c.in-Stop.k c.in-Stop.image) (words_of c.args.line.now) c.args.block.now c.args.out.now.items c.arm-in-Stop.new.out.items (Some (says (with_disk (view c.args.self) (armed (arms.Stop c.in-Stop.k c.in-Stop.image) (disk_of c.args.self.machine))) armed_text))
    c.arm-in-Stop.ensures.took c.arm-in-Stop.ensures.journal (λ plain memory. by_stop (view c.args.self) c.in-Stop.k c.in-Stop.image later) (λ plain. refl))

pub returns-in-Open : goal.returns-in-Open
returns-in-Open c = rw c.in-Open.is (steps c.open.result c.args.self (Open) (words_of c.args.line.now) c.args.block.now c.args.out.now.items c.open.new.out.items (start_event (view c.args.self)) (starts (view c.args.self))
    c.open.ensures.took c.open.ensures.journal (λ plain memory. refl) (λ plain. refl))
