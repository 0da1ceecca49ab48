-- Lists of a lawful model, of which one item is changed, added or taken away.
use Rattle.std.proofs.Common.{◌≡◌, ◌≢◌, refl, sym, ◌∙◌, ap, ap₂, subst, arith, ℕ, suc, Bool, true, false, not, cond, ◌&&◌, ◌||◌, if◌then◌else◌}
use Rattle.std.proofs.Common.{List, [], ◌∷◌, ◌++◌, map, filter, filter_map, get_or, bytes_eq, Option, Some, None, All, AllPairs}
use Rattle.std.specs.List.{cons_option, list_any}
use Rattle.std.specs.Option.{option_map_or}
use Rattle.std.proofs.lemmas.Bool.{false≢true}
use Rattle.std.proofs.lemmas.List.Elements.{All-cons, All-nil}
use Rattle.std.proofs.lemmas.List.Folds.{list_any_at}
use Rattle.std.proofs.lemmas.List.Kept.{AllPairs-cons}
use Rattle.std.proofs.lemmas.List.Quantifiers.{all_pairs_push}
use Rattle.std.proofs.lemmas.Slice.Eq.{bytes_eq-Decides}
use Rattle.model_data.specs.Lawful.{AreDistinct}
use Rattle.model_data.specs.declared.model.Var.{Var}
use Rattle.model_core.specs.Field.{with_tag}
use Rattle.model_core.specs.Named.{has_tag, is_var}
use Rattle.model_core.proofs.ByName.{others, pairs_head, pairs_tail, unnamed-changed}

module _ {X : Type 0} (P : X → Type 0) where
  pub all_head : (x : X) (xs : List X) → All P (x ∷ xs) → P x
  all_head x xs h = h 0 x (omega arith)

  pub all_tail : (x : X) (xs : List X) → All P (x ∷ xs) → All P xs
  all_tail x xs h k d within = h (suc k) d (omega (arith, within))

  changed_step : (b : Bool) (x y : X) → P x → (P x → P y) → P (if b then y else x)
  changed_step true x y h k = k h
  changed_step false x y h k = h

  pub all_changed : (p : X → Bool) (change : X → X) (xs : List X) → All P xs → ((x : X) → P x → P (change x))
      → All P (map (λ x. if p x then change x else x) xs)
  all_changed p change [] h keeps = All-nil P
  all_changed p change (x ∷ xs) h keeps =
      All-cons P (if p x then change x else x) (map (λ y. if p y then change y else y) xs)
      (changed_step (p x) x (change x) (all_head x xs h) (keeps x)) (all_changed p change xs (all_tail x xs h) keeps)

  pub all_push : (xs : List X) (y : X) → All P xs → P y → All P (xs ++ y ∷ [])
  all_push [] y h k = All-cons P y [] k (All-nil P)
  all_push (x ∷ xs) y h k = All-cons P x (xs ++ y ∷ []) (all_head x xs h) (all_push xs y (all_tail x xs h) k)

  pub all_append : (xs ys : List X) → All P xs → All P ys → All P (xs ++ ys)
  all_append [] ys h k = k
  all_append (x ∷ xs) ys h k = All-cons P x (xs ++ ys) (all_head x xs h) (all_append xs ys (all_tail x xs h) k)

  filter_step : (b : Bool) (x : X) (ys : List X) → P x → All P ys → All P (cond b (x ∷ ys) ys)
  filter_step true x ys h k = All-cons P x ys h k
  filter_step false x ys h k = k

  pub all_filter : (p : X → Bool) (xs : List X) → All P xs → All P (filter p xs)
  all_filter p [] h = All-nil P
  all_filter p (x ∷ xs) h = filter_step (p x) x (filter p xs) (all_head x xs h) (all_filter p xs (all_tail x xs h))

  pass_step : (p : X → Bool) (b : Bool) (x : X) (ys : List X) → p x ≡ b → (p x ≡ true → P x) → All P ys → All P (cond b (x ∷ ys) ys)
  pass_step p true x ys e h k = All-cons P x ys (h e) k
  pass_step p false x ys e h k = k

  -- what holds of each item that passes
  pub all_passed : (p : X → Bool) (xs : List X) → ((x : X) → p x ≡ true → P x) → All P (filter p xs)
  all_passed p [] h = All-nil P
  all_passed p (x ∷ xs) h = pass_step p (p x) x (filter p xs) refl (h x) (all_passed p xs h)

pub all_weaker : {X : Type 0} (P Q : X → Type 0) (xs : List X) → All P xs → ((x : X) → P x → Q x) → All Q xs
all_weaker P Q xs h f k d within = f (get_or xs k d) (h k d within)

pub all_mapped : {X Y : Type 0} (P : X → Type 0) (Q : Y → Type 0) (f : X → Y) (xs : List X) → All P xs → ((x : X) → P x → Q (f x)) → All Q (map f xs)
all_mapped P Q f [] h k = All-nil Q
all_mapped P Q f (x ∷ xs) h k = All-cons Q (f x) (map f xs) (k x (all_head P x xs h)) (all_mapped P Q f xs (all_tail P x xs h) k)

pub pairs_append : {X : Type 0} (R : X → X → Type 0) (xs ys : List X) → AllPairs R xs → AllPairs R ys → All (λ x. All (R x) ys) xs → AllPairs R (xs ++ ys)
pairs_append R [] ys h k across = k
pairs_append R (x ∷ xs) ys h k across =
    AllPairs-cons R x (xs ++ ys) (all_append (R x) xs ys (pairs_head R x xs h) (all_head (λ z. All (R z) ys) x xs across))
    (pairs_append R xs ys (pairs_tail R x xs h) k (all_tail (λ z. All (R z) ys) x xs across))

pub distinct_push : (names : List (List ℕ)) (text : List ℕ) → AreDistinct names → list_any (bytes_eq text) names ≡ false → AreDistinct (names ++ text ∷ [])
distinct_push names text distinct new = all_pairs_push (λ x y. x ≢ y) names text distinct
    (λ k d within e. false≢true (sym new ∙ list_any_at (bytes_eq text) names k d within ((bytes_eq-Decides text (get_or names k d)).1 (sym e))))

-- names that differ, of items of which some are taken away
module _ {X : Type 0} (name_of : X → List ℕ) where
  named_step : (P : List ℕ → Type 0) (b : Bool) (x : X) (ys : List X) → P (name_of x) → All P (map name_of ys) → All P (map name_of (cond b (x ∷ ys) ys))
  named_step P true x ys h k = All-cons P (name_of x) (map name_of ys) h k
  named_step P false x ys h k = k

  named_filter : (P : List ℕ → Type 0) (p : X → Bool) (xs : List X) → All P (map name_of xs) → All P (map name_of (filter p xs))
  named_filter P p [] h = All-nil P
  named_filter P p (x ∷ xs) h =
      named_step P (p x) x (filter p xs) (all_head P (name_of x) (map name_of xs) h) (named_filter P p xs (all_tail P (name_of x) (map name_of xs) h))

  distinct_step : (b : Bool) (x : X) (ys : List X) → All (λ (t : List ℕ). name_of x ≢ t) (map name_of ys) → AreDistinct (map name_of ys)
      → AreDistinct (map name_of (cond b (x ∷ ys) ys))
  distinct_step true x ys h k = AllPairs-cons (λ (s t : List ℕ). s ≢ t) (name_of x) (map name_of ys) h k
  distinct_step false x ys h k = k

  pub distinct_filter : (p : X → Bool) (xs : List X) → AreDistinct (map name_of xs) → AreDistinct (map name_of (filter p xs))
  distinct_filter p [] h = h
  distinct_filter p (x ∷ xs) h =
      distinct_step (p x) x (filter p xs)
      (named_filter (λ t. name_of x ≢ t) p xs (pairs_head (λ (s t : List ℕ). s ≢ t) (name_of x) (map name_of xs) h))
      (distinct_filter p xs (pairs_tail (λ (s t : List ℕ). s ≢ t) (name_of x) (map name_of xs) h))

-- the tags of variables
abbrev tags_of : List Var → List (List ℕ)
tags_of vars = filter_map (λ v. v.tag) vars

module _ (P : List ℕ → Type 0) where
  option_head : (o : Option (List ℕ)) (more : List (List ℕ)) → All P (cons_option o more) → (t : List ℕ) → o ≡ Some t → P t
  option_head (Some s) more h t e = subst P (some_same e) (all_head P s more h) where
    some_same : Some s ≡ Some t → s ≡ t
    some_same e = cc
  option_head None more h t e = absurd cc

  option_tail : (o : Option (List ℕ)) (more : List (List ℕ)) → All P (cons_option o more) → All P more
  option_tail (Some t) more h = all_tail P t more h
  option_tail None more h = h

  option_cons : (o : Option (List ℕ)) (more : List (List ℕ)) → ((t : List ℕ) → o ≡ Some t → P t) → All P more → All P (cons_option o more)
  option_cons (Some t) more h k = All-cons P t more (h t refl) k
  option_cons None more h k = k

  -- what holds of each tag holds of those that are left
  tagged_step : (b : Bool) (v : Var) (vs : List Var) (rest : List (List ℕ)) → All P (cons_option v.tag rest) → All P (tags_of vs) → All P (tags_of (cond b (v ∷ vs) vs))
  tagged_step true v vs rest h k = option_cons v.tag (tags_of vs) (option_head v.tag rest h) k
  tagged_step false v vs rest h k = k

  tagged_filter : (p : Var → Bool) (vars : List Var) → All P (tags_of vars) → All P (tags_of (filter p vars))
  tagged_filter p [] h = All-nil P
  tagged_filter p (v ∷ vars) h = tagged_step (p v) v (filter p vars) (tags_of vars) h (tagged_filter p vars (option_tail v.tag (tags_of vars) h))

  -- and of those where one variable has another one
  retagged_step : (b : Bool) (v : Var) (new : List ℕ) (rest changed : List (List ℕ)) → P new → All P (cons_option v.tag rest) → All P changed
      → All P (cons_option ((if b then with_tag new v else v).tag) changed)
  retagged_step true v new rest changed n h k = All-cons P new changed n k
  retagged_step false v new rest changed n h k = option_cons v.tag changed (option_head v.tag rest h) k

  retagged_all : (p : Var → Bool) (new : List ℕ) (vars : List Var) → P new → All P (tags_of vars)
      → All P (tags_of (map (λ v. if p v then with_tag new v else v) vars))
  retagged_all p new [] n h = All-nil P
  retagged_all p new (v ∷ vars) n h =
      retagged_step (p v) v new (tags_of vars) (tags_of (map (λ w. if p w then with_tag new w else w) vars)) n h
      (retagged_all p new vars n (option_tail v.tag (tags_of vars) h))

distinct_rest : (o : Option (List ℕ)) (more : List (List ℕ)) → AreDistinct (cons_option o more) → AreDistinct more
distinct_rest None more h = h
distinct_rest (Some t) more h = pairs_tail (λ (x y : List ℕ). x ≢ y) t more h

distinct_first : (o : Option (List ℕ)) (more : List (List ℕ)) → AreDistinct (cons_option o more) → (t : List ℕ) → o ≡ Some t → All (λ (s : List ℕ). t ≢ s) more
distinct_first None more h t e = absurd cc
distinct_first (Some s) more h t e = subst (λ (u : List ℕ). All (λ (w : List ℕ). u ≢ w) more) (some_same e) (pairs_head (λ (x y : List ℕ). x ≢ y) s more h) where
  some_same : Some s ≡ Some t → s ≡ t
  some_same e = cc

option_distinct : (o : Option (List ℕ)) (more : List (List ℕ)) → ((t : List ℕ) → o ≡ Some t → All (λ (s : List ℕ). t ≢ s) more) → AreDistinct more
    → AreDistinct (cons_option o more)
option_distinct None more h k = k
option_distinct (Some t) more h k = AllPairs-cons (λ (x y : List ℕ). x ≢ y) t more (h t refl) k

distinct_tag_step : (b : Bool) (v : Var) (vs : List Var) → ((t : List ℕ) → v.tag ≡ Some t → All (λ (s : List ℕ). t ≢ s) (tags_of vs)) → AreDistinct (tags_of vs)
    → AreDistinct (tags_of (cond b (v ∷ vs) vs))
distinct_tag_step true v vs h k = option_distinct v.tag (tags_of vs) h k
distinct_tag_step false v vs h k = k

pub distinct_tags_filter : (p : Var → Bool) (vars : List Var) → AreDistinct (tags_of vars) → AreDistinct (tags_of (filter p vars))
distinct_tags_filter p [] h = h
distinct_tags_filter p (v ∷ vars) h =
    distinct_tag_step (p v) v (filter p vars)
    (λ t e. tagged_filter (λ s. t ≢ s) p vars (distinct_first v.tag (tags_of vars) h t e))
    (distinct_tags_filter p vars (distinct_rest v.tag (tags_of vars) h))

-- whether a variable has the tag, by the list of tags
tag_step : (tag : List ℕ) (o : Option (List ℕ)) (more : List (List ℕ)) → (option_map_or (bytes_eq tag) o false || list_any (bytes_eq tag) more)
    ≡ list_any (bytes_eq tag) (cons_option o more)
tag_step tag (Some t) more = refl
tag_step tag None more = refl

pub any_tag : (tag : List ℕ) (vars : List Var) → list_any (has_tag tag) vars ≡ list_any (bytes_eq tag) (tags_of vars)
any_tag tag [] = refl
any_tag tag (v ∷ vars) = ap (λ b. has_tag tag v || b) (any_tag tag vars) ∙ tag_step tag v.tag (tags_of vars)

all_other : (tag : List ℕ) (tags : List (List ℕ)) → list_any (bytes_eq tag) tags ≡ false → All (λ (t : List ℕ). tag ≢ t) tags
all_other tag tags h k d within same =
    false≢true (sym h ∙ list_any_at (bytes_eq tag) tags k d within ((bytes_eq-Decides tag (get_or tags k d)).1 same))

or_left : (a b : Bool) → (a || b) ≡ false → a ≡ false
or_left true b e = absurd cc
or_left false b e = refl

or_right : (a b : Bool) → (a || b) ≡ false → b ≡ false
or_right true b e = absurd cc
or_right false b e = e

unnamed : (a b : Bool) → (a && not b) ≡ false → b ≡ false → a ≡ false
unnamed true b e h = absurd (false≢true (sym e ∙ ap not h))
unnamed false b e h = refl

-- where no other variable has the tag, those of the others stay apart from it
module _ (name new : List ℕ) where
  apart_rest : (vars : List Var) → list_any (λ v. has_tag new v && not (is_var name v)) vars ≡ false → list_any (is_var name) vars ≡ false
      → list_any (has_tag new) vars ≡ false
  apart_rest [] h k = refl
  apart_rest (v ∷ vars) h k =
      ap₂ (λ a b. a || b)
      (unnamed (has_tag new v) (is_var name v) (or_left (has_tag new v && not (is_var name v)) (list_any (λ v. has_tag new v && not (is_var name v)) vars) h)
      (or_left (is_var name v) (list_any (is_var name) vars) k))
      (apart_rest vars (or_right (has_tag new v && not (is_var name v)) (list_any (λ v. has_tag new v && not (is_var name v)) vars) h)
      (or_right (is_var name v) (list_any (is_var name) vars) k))

  other_tag : (v : Var) (t : List ℕ) → has_tag new v ≡ false → v.tag ≡ Some t → t ≢ new
  other_tag v t h e same =
      let tagged : has_tag new v ≡ bytes_eq new t = ap (λ (o : Option (List ℕ)). option_map_or (bytes_eq new) o false) e in
      false≢true (sym h ∙ tagged ∙ (bytes_eq-Decides new t).1 (sym same))

  some_same : (s t : List ℕ) → Some s ≡ Some t → s ≡ t
  some_same s t e = cc

  retag_head : (b : Bool) (v : Var) (vars : List Var) → is_var name v ≡ b → AreDistinct (cons_option v.tag (tags_of vars))
      → AreDistinct (map (λ w. w.name) (v ∷ vars)) → (has_tag new v && not (is_var name v)) ≡ false
      → list_any (λ w. has_tag new w && not (is_var name w)) vars ≡ false
      → (t : List ℕ) → (if b then with_tag new v else v).tag ≡ Some t → All (λ (s : List ℕ). t ≢ s) (tags_of (map (λ w. if is_var name w then with_tag new w else w) vars))
  retag_head true v vars is tags names own rest t e =
      let alone = others (λ (w : Var). w.name) name v vars is names in
      let free = apart_rest vars rest alone in
      subst (λ (vs : List Var). All (λ (s : List ℕ). t ≢ s) (tags_of vs)) (sym (unnamed-changed (λ (w : Var). w.name) name (with_tag new) vars alone))
      (subst (λ (u : List ℕ). All (λ (s : List ℕ). u ≢ s) (tags_of vars)) (some_same new t e) (all_other new (tags_of vars) (sym (any_tag new vars) ∙ free)))
  retag_head false v vars is tags names own rest t e =
      retagged_all (λ s. t ≢ s) (is_var name) new vars (other_tag v t (unnamed (has_tag new v) (is_var name v) own is) e)
      (distinct_first v.tag (tags_of vars) tags t e)

  pub distinct_retag : (vars : List Var) → AreDistinct (tags_of vars) → AreDistinct (map (λ v. v.name) vars)
      → list_any (λ v. has_tag new v && not (is_var name v)) vars ≡ false → AreDistinct (tags_of (map (λ v. if is_var name v then with_tag new v else v) vars))
  distinct_retag [] tags names free = tags
  distinct_retag (v ∷ vars) tags names free =
      let own = or_left (has_tag new v && not (is_var name v)) (list_any (λ w. has_tag new w && not (is_var name w)) vars) free in
      let rest = or_right (has_tag new v && not (is_var name v)) (list_any (λ w. has_tag new w && not (is_var name w)) vars) free in
      option_distinct ((if is_var name v then with_tag new v else v).tag) (tags_of (map (λ w. if is_var name w then with_tag new w else w) vars))
      (retag_head (is_var name v) v vars refl tags names own rest)
      (distinct_retag vars (distinct_rest v.tag (tags_of vars) tags) (pairs_tail (λ (x y : List ℕ). x ≢ y) v.name (map (λ w. w.name) vars) names) rest)
