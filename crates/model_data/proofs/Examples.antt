-- What the definitions say of texts at hand.
use Rattle.std.proofs.Common.{◌≡◌, refl, true, false, codes, [], ◌∷◌, replicate}
use Rattle.model_data.specs.Names.{is_name, is_tag}

names : (is_name (codes "x") ≡ true) × (is_name (codes "Profit_2{a}!") ≡ true) × (is_name (codes "lazy") ≡ true) × (is_name (codes "to") ≡ true) × (is_name (codes "e2") ≡ true) × (is_name (codes "infinite") ≡ true)
unfolding is_name
names = (refl, refl, refl, refl, refl, refl)

no_names : (is_name [] ≡ false) × (is_name (codes "2x") ≡ false) × (is_name (codes ".x") ≡ false) × (is_name (codes "-x") ≡ false) × (is_name (codes "[x") ≡ false) × (is_name (codes "=x") ≡ false)
unfolding is_name
no_names = (refl, refl, refl, refl, refl, refl)

no_names_within : (is_name (codes "a:b") ≡ false) × (is_name (codes "a\\b") ≡ false) × (is_name (codes "a b") ≡ false) × (is_name (97 ∷ 127 ∷ []) ≡ false) × (is_name (97 ∷ 31 ∷ []) ≡ false)
unfolding is_name
no_names_within = (refl, refl, refl, refl, refl)

no_names_reserved : (is_name (codes "Free") ≡ false) × (is_name (codes "s.t.") ≡ false) × (is_name (codes "INF") ≡ false) × (is_name (codes "MultI-Objectives") ≡ false) × (is_name (codes "end") ≡ false)
unfolding is_name
no_names_reserved = (refl, refl, refl, refl, refl)

lengths : (is_name (replicate 255 97) ≡ true) × (is_name (replicate 256 97) ≡ false) × (is_tag (replicate 255 58) ≡ true) × (is_tag (replicate 256 58) ≡ false)
unfolding is_name is_tag
lengths = (refl, refl, refl, refl)

tags : (is_tag (codes "1:\\") ≡ true) × (is_tag [] ≡ false) × (is_tag (codes "a b") ≡ false)
unfolding is_tag
tags = (refl, refl, refl)
