-- What each step of an append leaves, over the images that a crash may leave now.
use Rattle.std.proofs.Common.{◌≡◌, inl, inr, ℕ, ◌+◌, ◌^◌, ◌≤◌, ◌<◌, List, [], ◌∷◌, ◌++◌, length, Option, None, Some, IfSome, sym, ◌∙◌, ap, arith, append_assoc, length-append}
use Rattle.disk_model.specs.Disk.{TornFrom}
use Rattle.journal.specs.Putting.{IsPut}
use Rattle.journal.specs.Records.{record_of, front, AreShort, IsClosed, IsDoubtful, StandsFor}
use Rattle.journal.specs.Standing.{Holds}
use Rattle.journal.proofs.Tearing.{torn_behind, written_behind, torn_gate, written_gate, front_more}

-- what is left now
pub now_holds : (bodies : List (List ℕ)) (doubt : Option (List ℕ)) → AreShort bodies → IfSome doubt (λ d. length d < 256 ^ 4) → (image : List ℕ) → StandsFor bodies doubt image → Holds bodies doubt image
now_holds bodies None short small image stands = record { short = short; small = tt; form = inr (inl stands) }
now_holds bodies (Some d) short small image stands = record { short = short; small = small; form = inr (inr stands) }

pub closed_holds : (bodies : List (List ℕ)) (doubt : Option (List ℕ)) → AreShort bodies → IfSome doubt (λ d. length d < 256 ^ 4) → (image : List ℕ) → IsClosed bodies image → Holds bodies doubt image
closed_holds bodies doubt short small image closed = record { short = short; small = small; form = inr (inl closed) }

-- the gate lies in the file
pub gate_inside : (bodies : List (List ℕ)) (doubt : Option (List ℕ)) (end : ℕ) → end ≡ length (front bodies) → (image : List ℕ) → StandsFor bodies doubt image → end + 1 ≤ length image
gate_inside bodies None end is image stands = omega (arith, ap length stands.1 ∙ length-append (front bodies) (0 ∷ stands.0), is)
gate_inside bodies (Some d) end is image stands = omega (arith, ap length stands.2 ∙ length-append (front bodies) (stands.0 ∷ (record_of d ++ 0 ∷ stands.1)), is)

module _ (bodies : List (List ℕ)) (end : ℕ) (is : end ≡ length (front bodies)) (left : List ℕ → Type 0) where
  -- behind the closed gate
  pub closed_torn : ((image : List ℕ) → left image → IsClosed bodies image) → (n : ℕ) (image : List ℕ) → TornFrom (end + 1) n left image → IsClosed bodies image
  closed_torn all n image torn = torn_behind bodies (end + 1) n torn.0 image (ap (λ (k : ℕ). k + 1) is) (all torn.0 torn.1) torn.2

  pub staged : ((image : List ℕ) → left image → IsClosed bodies image) → (seen : Option (List ℕ)) → ((file : List ℕ) → seen ≡ Some file → left file) → (body image : List ℕ) → IsPut (end + 1) (record_of body ++ 0 ∷ []) seen image → IsDoubtful bodies body image
  staged all seen reads body image put =
      let from = written_behind bodies (end + 1) (record_of body ++ 0 ∷ []) put.0 (ap (λ (k : ℕ). k + 1) is) (all put.0 (reads put.0 put.1)) in
      (0, from.0, put.2 ∙ (from.1 ∙ ap (λ (l : List ℕ). front bodies ++ 0 ∷ l) (append_assoc (record_of body) (0 ∷ []) from.0)))

  -- the gate
  pub gate_torn : (body : List ℕ) → ((image : List ℕ) → left image → IsDoubtful bodies body image) → (image : List ℕ) → TornFrom end 1 left image → IsDoubtful bodies body image
  gate_torn body all image torn =
      let from = all torn.0 torn.1 in
      let gate = torn_gate (front bodies) (record_of body ++ 0 ∷ from.1) end from.0 torn.0 image is from.2 torn.2 in
      (gate.0, from.1, gate.1)

  pub gate_shut : (body : List ℕ) → ((image : List ℕ) → left image → IsDoubtful bodies body image) → (seen : Option (List ℕ)) → ((file : List ℕ) → seen ≡ Some file → left file) → (image : List ℕ) → IsPut end (0 ∷ []) seen image → IsClosed bodies image
  gate_shut body all seen reads image put =
      let from = all put.0 (reads put.0 put.1) in
      (record_of body ++ 0 ∷ from.1, put.2 ∙ written_gate (front bodies) (record_of body ++ 0 ∷ from.1) end from.0 0 put.0 is from.2)

  pub gate_opened : (body : List ℕ) → ((image : List ℕ) → left image → IsDoubtful bodies body image) → (seen : Option (List ℕ)) → ((file : List ℕ) → seen ≡ Some file → left file) → (image : List ℕ) → IsPut end (1 ∷ []) seen image → IsClosed (bodies ++ body ∷ []) image
  gate_opened body all seen reads image put =
      let from = all put.0 (reads put.0 put.1) in
      let opened_is : front (bodies ++ body ∷ []) ++ 0 ∷ from.1 ≡ front bodies ++ 1 ∷ (record_of body ++ 0 ∷ from.1) =
      ap (λ (l : List ℕ). l ++ 0 ∷ from.1) (front_more bodies body) ∙ append_assoc (front bodies) (1 ∷ record_of body) (0 ∷ from.1) in
      (from.1, put.2 ∙ (written_gate (front bodies) (record_of body ++ 0 ∷ from.1) end from.0 1 put.0 is from.2 ∙ sym opened_is))
