-- What holds of every item of a list, when items are added, left out or changed.
use Rattle.std.proofs.Common.{Bool, true, false, List, [], ◌∷◌, ◌++◌, cond}
use Rattle.std.specs.Prelude.{filter}
use Rattle.table_defs.specs.Lists.{changed}
use Rattle.cluster_laws.specs.Places.{Every}

pub every_push : {A : Type 0} (P : A → Type 0) (xs : List A) (x : A) → Every P xs → P x → Every P (xs ++ x ∷ [])
every_push P [] x h p = (p, tt)
every_push P (y ∷ ys) x h p = (h.0, every_push P ys x h.1 p)

pub every_append : {A : Type 0} (P : A → Type 0) (xs ys : List A) → Every P xs → Every P ys → Every P (xs ++ ys)
every_append P [] ys h later = later
every_append P (x ∷ xs) ys h later = (h.0, every_append P xs ys h.1 later)

kept_by : {A : Type 0} (P : A → Type 0) (q : A → Bool) (x : A) (xs : List A) (b : Bool) → P x → Every P (filter q xs) → Every P (cond b (x ∷ filter q xs) (filter q xs))
kept_by P q x xs true p h = (p, h)
kept_by P q x xs false p h = h

pub every_filter : {A : Type 0} (P : A → Type 0) (q : A → Bool) (xs : List A) → Every P xs → Every P (filter q xs)
every_filter P q [] h = tt
every_filter P q (x ∷ xs) h = kept_by P q x xs (q x) h.0 (every_filter P q xs h.1)

made_by : {A : Type 0} (P : A → Type 0) (f : A → A) (x : A) (b : Bool) → (P x → P (f x)) → P x → P (cond b (f x) x)
made_by P f x true each p = each p
made_by P f x false each p = p

pub every_changed : {A : Type 0} (P : A → Type 0) (test : A → Bool) (f : A → A) → ((x : A) → P x → P (f x)) → (xs : List A) → Every P xs → Every P (changed test f xs)
every_changed P test f each [] h = tt
every_changed P test f each (x ∷ xs) h = (made_by P f x (test x) (each x) h.0, every_changed P test f each xs h.1)
