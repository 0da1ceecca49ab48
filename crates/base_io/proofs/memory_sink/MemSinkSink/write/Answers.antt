use Rattle.std.proofs.Common.{inl, inr, refl, rules}
use Rattle.base_io.proofs.ListedCalls.{listed_is}
use Rattle.base_io.proofs.memory_sink.MemSinkSink.write.Goals as goal

pub returns-then-contains-clause-exact : goal.returns-then-contains-clause-exact
returns-then-contains-clause-exact c =
    rw (← c.self.view_is) (inl (
      listed_is _ _ _ _ _ _ c.contains.ensures.value c.deref.ensures.value c.saturating_add-self-inside.ensures c.if-contains.true,
      rw (c.saturating_add-self-inside.ensures, c.saturating_add-self-inside-then-contains.ensures) refl,
    ))

pub returns-then-is_err-clause-exact : goal.returns-then-is_err-clause-exact
returns-then-is_err-clause-exact c =
    rw (← c.self.view_is) (inr (
      listed_is _ _ _ _ _ _ c.contains.ensures.value c.deref.ensures.value c.saturating_add-self-inside.ensures c.if-contains.false,
      search rules,
    ))
