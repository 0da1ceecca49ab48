-- What the tests of names tell.
use Rattle.std.proofs.Common.{◌≡◌, refl, sym, ap, ap₂, ◌∙◌, ℕ, Bool, true, false, arith, ◌==◌, ◌&&◌}
use Rattle.std.specs.Bool.{Decides}
use Rattle.std.proofs.lemmas.Bool.Decides.{Decides-eqb}
use Rattle.std.proofs.lemmas.Slice.Eq.{bytes_eq-Decides}
use Rattle.base_names.specs.declared.id.BatchId.{BatchId}
use Rattle.table_defs.specs.Names.{Owner, is_attempt, is_id, is_owner}

-- ---- both of two tests

pub and_left : (a b : Bool) → (a && b) ≡ true → a ≡ true
and_left true b h = refl
and_left false b h = h

pub and_right : (a b : Bool) → (a && b) ≡ true → b ≡ true
and_right true b h = h
and_right false b h = absurd (grind (arith, h))

pub and_both : (a b : Bool) → a ≡ true → b ≡ true → (a && b) ≡ true
and_both true b p q = q
and_both false b p q = absurd (grind (arith, p))

pub and_off : (a b : Bool) → a ≡ false → (a && b) ≡ false
and_off true b h = absurd (grind (arith, h))
and_off false b h = refl

pub not_both : {b : Bool} → b ≡ true → b ≡ false → ⊥
not_both p q = grind (arith, p, q)

pub bool_off : (b : Bool) → (b ≡ true → ⊥) → b ≡ false
bool_off true h = absurd (h refl)
bool_off false h = refl

-- ---- owners

owner_decides : (a b : Owner) → Decides (is_owner a b) (a ≡ b)
unfolding is_owner
owner_decides a b = bytes_eq-Decides a b

pub owner_refl : (a : Owner) → is_owner a a ≡ true
owner_refl a = (owner_decides a a).1 refl

pub owner_is : (a b : Owner) → is_owner a b ≡ true → a ≡ b
owner_is a b h = (owner_decides a b).0 h

pub owner_within : (u a b : Owner) → is_owner u a ≡ true → is_owner a b ≡ true → is_owner u b ≡ true
owner_within u a b own same = sym (ap (λ (o : Owner). is_owner u o) (owner_is a b same)) ∙ own

pub owner_without : (u a b : Owner) → is_owner u a ≡ false → is_owner u b ≡ true → is_owner a b ≡ false
owner_without u a b other own = grind (arith, ap (λ (o : Owner). is_owner u o), owner_is a b)

-- ---- batches and attempts

pub id_owner : (a b : BatchId) → is_id a b ≡ true → a.owner ≡ b.owner
unfolding is_id
id_owner a b h = owner_is a.owner b.owner (grind (arith, h))

pub id_is : (a b : BatchId) → is_id a b ≡ true → a ≡ b
unfolding is_id
id_is a b h = ap₂ (λ (o : Owner) (n : ℕ). record { owner = o; number = n }) (id_owner a b h) ((Decides-eqb a.number b.number).0 (and_right (is_owner a.owner b.owner) (a.number == b.number) h))

pub id_refl : (a : BatchId) → is_id a a ≡ true
unfolding is_id
id_refl a = and_both (is_owner a.owner a.owner) (a.number == a.number) (owner_refl a.owner) ((Decides-eqb a.number a.number).1 refl)

-- Where an owner's batch is looked for, what is found is the owner's.
pub id_within : (u : Owner) (a b : BatchId) → is_owner u a.owner ≡ true → is_id a b ≡ true → is_owner u b.owner ≡ true
id_within u a b own same = sym (ap (λ (o : Owner). is_owner u o) (id_owner a b same)) ∙ own

-- Where another owner's is looked for, the owner's are not found.
pub id_without : (u : Owner) (a b : BatchId) → is_owner u a.owner ≡ false → is_owner u b.owner ≡ true → is_id a b ≡ false
id_without u a b other own = grind (arith, ap (λ (o : Owner). is_owner u o), id_owner a b)

-- what is the same batch as c is the same as whatever c is
pub id_apart : (a b c : BatchId) → is_id a b ≡ false → is_id a c ≡ true → is_id b c ≡ false
id_apart a b c apart same = bool_off (is_id b c) (λ h. let e : b ≡ a = id_is b c h ∙ sym (id_is a c same) in absurd (not_both (ap (is_id a) e ∙ id_refl a) apart))

pub attempt_without : (u : Owner) (a b : BatchId) (m n : ℕ) → is_owner u a.owner ≡ false → is_owner u b.owner ≡ true → is_attempt a m b n ≡ false
attempt_without u a b m n other own = and_off (is_id a b) (m == n) (id_without u a b other own)
