use Rattle.std.proofs.Common.{◌≡◌, length, take, drop, refl, ap, Some, arith}
use Rattle.std.proofs.lemmas.Grind.{common_steps}
use Rattle.std.proofs.lemmas.List.{drop-drop}
use Rattle.base_io.proofs.ListedCalls.{listed_is, left_is}
use Rattle.base_io.proofs.memory_source.MemSourceSource.read.Goals as goal

pub returns-then-contains-clause-exact : goal.returns-then-contains-clause-exact
returns-then-contains-clause-exact c =
    rw (← c.self.view_is) (
      listed_is _ _ _ _ _ _ c.contains.ensures.value c.deref.ensures.value c.saturating_add-self-inside.ensures c.if-contains.true,
      rw (c.saturating_add-self-inside.ensures, c.saturating_add-self-inside-then-contains.ensures) refl,
    )

pub returns-clause-bytes : goal.returns-clause-bytes
returns-clause-bytes c =
    let copied : c.copy_from_slice.new.self ≡ take c.min-n.result (drop c.self.inside.at c.self.inside.bytes.items) = grind (arith, common_steps) in
    let len : length c.copy_from_slice.new.self ≡ c.min-n.result = grind (arith, common_steps) in
    rw (← c.self.view_is) (ap Some (left_is c.self.inside.bytes.items c.copy_from_slice.new.self c.args.buf.now c.self.inside.at c.min-n.result copied len))

pub returns-clause-exact : goal.returns-clause-exact
returns-clause-exact c =
    rw (← c.self.view_is) (
      listed_is _ _ _ _ _ _ c.contains.ensures.value c.deref.ensures.value c.saturating_add-self-inside.ensures c.if-contains.false,
      grind (arith, common_steps),
      rw (c.saturating_add-self-inside.ensures, drop-drop c.min-n.result c.self.inside.at c.self.inside.bytes.items) refl,
    )
