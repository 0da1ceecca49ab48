-- What a session's answer to a line leaves of a world's sessions.
use Rattle.std.proofs.Common.{◌≡◌, ℕ, zero, suc, Bool, true, false, List, [], ◌∷◌, Some, Result, refl, sym, ap, subst, ◌∙◌, slice_set, slice_index_or}
use Rattle.std.specs.Prelude.{IfOk, Ok, Err, position, remove}
use Rattle.base_names.specs.declared.refusal.Refusal.{Refusal}
use Rattle.cluster_defs.specs.declared.entry.Entry.{Entry}
use Rattle.desk.specs.Desks.{Held}
use Rattle.disk_model.specs.Memory.{DiskState}
use Rattle.session.specs.Hearing.{WasAsked, is_last, line_effect}
use Rattle.session.specs.Session.{Session}
use Rattle.session.specs.Step.{Steps}
use Rattle.session.specs.declared.step.Next.{Next}
use Rattle.session.specs.declared.step.Next.TheVariants.{More, Bye}
use Rattle.wire_text.specs.declared.command.Command.{Command}
use Rattle.replay_world.specs.Answering.{Answered, AskedOf}
use Rattle.replay_world.specs.Steps.{sessions_after}
use Rattle.replay_world.specs.World.{session_at, sits_at}
use Rattle.replay_world.proofs.Seats.{session_place, with_place, without_place}

-- what is taken away is no matter
remove_set : (xs : List Session) (n : ℕ) (x : Session) → remove (slice_set xs n x) n ≡ remove xs n
remove_set [] zero x = refl
remove_set [] (suc n) x = refl
remove_set (y ∷ ys) zero x = refl
remove_set (y ∷ ys) (suc n) x = ap (λ (l : List Session). y ∷ l) (remove_set ys n x)

some_same : (x y : Session) → Some x ≡ Some y → x ≡ y
some_same x y is = cc

-- three things of an answer, and what follows from all
pub ok_all : {A E : Type 0} (r : Result A E) (P Q R S : A → Type 0) → IfOk r P → IfOk r Q → IfOk r R → ((x : A) → P x → Q x → R x → S x) → IfOk r S
ok_all (Ok x) P Q R S p q r all = all x p q r
ok_all (Err e) P Q R S p q r all = tt

module _ (number : ℕ) (session : Session) (command : Result Command Refusal) (block : List ℕ) (old new : Held DiskState) (xs : List Session) (place : ℕ) (at : position (sits_at number) xs ≡ Some place) where
  -- it is the seat's session that was at the place
  pub sits_there : (was : Session) → was ≡ slice_index_or xs place was → session_at number xs ≡ Some session → was ≡ session
  sits_there was there found = some_same was session (ap (λ (s : Session). Some s) there ∙ (sym (session_place number xs place was at) ∙ found))

  more_after : (last : Bool) (next : Session) → last ≡ false → slice_set xs place next ≡ sessions_after number last next xs
  more_after last next is = subst (λ (l : Bool). slice_set xs place next ≡ sessions_after number l next xs) (sym is) (sym (with_place number next xs place next at))

  bye_after : (last : Bool) (next : Session) → last ≡ true → remove xs place ≡ sessions_after number last next xs
  bye_after last next is = subst (λ (l : Bool). remove xs place ≡ sessions_after number l next xs) (sym is) (sym (without_place number xs place next at))

  module _ (next : Session) (mine mine' : List Entry) (fulls fulls' : ℕ) (text : List ℕ) where
    -- the session at this place answered so, into an empty sink
    abbrev SteppedAs : Next → Session → Type 0
    SteppedAs result was = Steps result command block was next mine mine' fulls fulls' (λ calls. WasAsked AskedOf was.seat old calls new) (Some []) (Some text)

    some_text : (a b : List ℕ) → Some a ≡ Some b → a ≡ b
    some_text a b is = cc

    as_more : (ys : List Session) → ys ≡ slice_set xs place next → SteppedAs More session → Answered number session command block old new xs ys text
    as_more ys is s = record {
      heard = s.heard;
      asked = s.asked;
      wrote = some_text text _ s.says.0;
      after = is ∙ (more_after (is_last command s.heard) next s.says.2 ∙ ap (λ (x : Session). sessions_after number (is_last command s.heard) x xs) s.says.1);
    }

    as_bye : (ys : List Session) → ys ≡ remove (slice_set xs place next) place → SteppedAs Bye session → Answered number session command block old new xs ys text
    as_bye ys is s = record {
      heard = s.heard;
      asked = s.asked;
      wrote = some_text text _ s.says.0;
      after = is ∙ (remove_set xs place next ∙ bye_after (is_last command s.heard) (line_effect session command block s.heard).session s.says.1);
    }

    steps_as : (result to : Next) (was : Session) → was ≡ session → result ≡ to → SteppedAs result was → SteppedAs to session
    steps_as result to was same is s = subst (λ (r : Next). SteppedAs r session) is (subst (λ (w : Session). SteppedAs result w) same s)

    pub more_answered : (result : Next) (was : Session) (ys : List Session) → was ≡ session → result ≡ More → ys ≡ slice_set xs place next → SteppedAs result was → Answered number session command block old new xs ys text
    more_answered result was ys same is sessions s = as_more ys sessions (steps_as result More was same is s)

    pub bye_answered : (result : Next) (was : Session) (ys : List Session) → was ≡ session → result ≡ Bye → ys ≡ remove (slice_set xs place next) place → SteppedAs result was → Answered number session command block old new xs ys text
    bye_answered result was ys same is sessions s = as_bye ys sessions (steps_as result Bye was same is s)
