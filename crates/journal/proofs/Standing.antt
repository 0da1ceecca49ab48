-- What a journal stands for while its doubt is settled and a body is added.
use Rattle.std.proofs.Common.{◌≡◌, inl, inr, ℕ, ◌+◌, ◌^◌, ◌≤◌, ◌<◌, List, [], ◌∷◌, ◌++◌, length, map, take, false, ◌-◌, Option, None, Some, IfSome, refl, sym, ◌∙◌, ap, subst, arith, length-append}
use Rattle.std.specs.Int.{bytes_high_first}
use Rattle.std.specs.Option.{is_none, option_map}
use Rattle.std.proofs.lemmas.Bool.{false≢true}
use Rattle.std.proofs.lemmas.List.{take_at, append-nil}
use Rattle.std.specs.Prelude.{Vec}
use Rattle.std.specs.declared.alloc.Global.{Global}
use Rattle.std.specs.declared.snapshot.Snapshot.{Snapshot}
use Rattle.disk_model.specs.Disk.{TornFrom}
use Rattle.disk_model.specs.Moments.{LeavesOnly}
use Rattle.disk_model.proofs.Moments.{starts, weaker, joins, now_has}
use Rattle.journal.specs.Putting.{IsPut}
use Rattle.journal.specs.Records.{record_of, front, AreShort, IsClosed, IsDoubtful, StandsFor}
use Rattle.journal.specs.Standing.{Stands, body_in, bodies_of, doubt_of, Holds, WhileAdding}
use Rattle.journal.specs.declared.journal.Journal.{Journal}
use Rattle.journal.proofs.Steps.{now_holds, closed_holds, gate_inside, closed_torn, staged, gate_torn, gate_shut, gate_opened}
use Rattle.journal.proofs.Tearing.{front_more}

pub short_more : (bodies : List (List ℕ)) (body : List ℕ) → AreShort bodies → length body < 256 ^ 4 → AreShort (bodies ++ body ∷ [])
short_more [] body short small = (small, tt)
short_more (b ∷ bodies) body short small = (short.0, short_more bodies body short.1 small)

pub end_more : (bodies : List (List ℕ)) (body : List ℕ) (end : ℕ) → end ≡ length (front bodies) → end + 5 + length body ≡ length (front (bodies ++ body ∷ []))
end_more bodies body end is = omega (arith, is, ap length (front_more bodies body) ∙ length-append (front bodies) (1 ∷ record_of body))

-- those that were found, before one is added
pub found_bodies : (found : Snapshot (Vec (List ℕ) Global)) (added : List (Vec ℕ Global × ℕ)) (bodies : Vec (List ℕ) Global) → found.value ≡ bodies → added ≡ [] → found.value.items ++ map (λ p. body_in p.0.items) added ≡ bodies.items
found_bodies found added bodies is none = rw is (rw none (append-nil bodies.items))

-- ---- the body in doubt

-- there is one
some_buffer : {X : Type 0} (doubt : Option X) → is_none doubt ≡ false → (buffer : X) × (doubt ≡ Some buffer)
some_buffer None none = absurd (false≢true (sym none))
some_buffer (Some buffer) none = (buffer, refl)

pub some_doubt : {D : Type 0} (j : Journal D) → is_none j.doubt ≡ false → (body : List ℕ) × (doubt_of j ≡ Some body)
some_doubt j none = let is = some_buffer j.doubt none in (body_in is.0.value.items, ap (option_map (λ buffer. body_in buffer.value.items)) is.1)

-- the body in a buffer
pub body_of_record : (body : List ℕ) → body_in (record_of body ++ 0 ∷ []) ≡ body
body_of_record body =
    let len : length (record_of body ++ 0 ∷ []) ≡ length body + 5 = length-append (record_of body) (0 ∷ []) ∙ ap (λ n. n + 1) (length-append (bytes_high_first 4 (length body)) body) ∙ omega arith in
    ap (λ n. take (n - 5) (body ++ 0 ∷ [])) len ∙ take_at body (0 ∷ []) (length body + 5 - 5) (omega arith)

-- with a doubt that is known
pub stands_as : (bodies : List (List ℕ)) (doubt known : Option (List ℕ)) (image : List ℕ) → doubt ≡ known → StandsFor bodies doubt image → StandsFor bodies known image
stands_as bodies doubt known image is stands = subst (λ (d : Option (List ℕ)). StandsFor bodies d image) is stands

module _ {D : Type 0} (moment : D → ℕ) (left : D → ℕ → List ℕ → Type 0) (j : Journal D) (s : Stands moment left j) where
  abbrev images : List ℕ → Type 0
  images = left j.disk (moment j.disk)

  pub at_start : LeavesOnly moment left j.disk j.disk (Holds (bodies_of j) (doubt_of j))
  at_start = starts moment left j.disk _ (λ image is. now_holds (bodies_of j) (doubt_of j) s.short s.small image (s.images image is))

  -- the gate lies in the file
  pub gate_in_file : (seen : Option (List ℕ)) → ((file : List ℕ) → seen ≡ Some file → images file) → IfSome seen (λ file. j.end + 1 ≤ length file)
  gate_in_file None reads = tt
  gate_in_file (Some file) reads = gate_inside (bodies_of j) (doubt_of j) j.end s.end file (s.images file (reads file refl))

  pub gate_here : (seen : Option (List ℕ)) → ((file : List ℕ) → seen ≡ Some file → images file) → IfSome seen (λ file. j.end ≤ length file)
  gate_here None reads = tt
  gate_here (Some file) reads = omega (arith, gate_inside (bodies_of j) (doubt_of j) j.end s.end file (s.images file (reads file refl)))

  -- ---- one in doubt
  module _ (body : List ℕ) (doubtful : doubt_of j ≡ Some body) where
    all_doubtful : (image : List ℕ) → images image → IsDoubtful (bodies_of j) body image
    all_doubtful image is = stands_as (bodies_of j) (doubt_of j) (Some body) image doubtful (s.images image is)

    back : (image : List ℕ) → IsDoubtful (bodies_of j) body image → StandsFor (bodies_of j) (doubt_of j) image
    back image is = stands_as (bodies_of j) (Some body) (doubt_of j) image (sym doubtful) is

    module _ (new : D) (run : LeavesOnly moment left j.disk new (TornFrom j.end 1 images)) where
      pub settling : LeavesOnly moment left j.disk new (Holds (bodies_of j) (doubt_of j))
      settling = weaker moment left j.disk new _ _ (λ image torn. now_holds (bodies_of j) (doubt_of j) s.short s.small image (back image (gate_torn (bodies_of j) j.end s.end images body all_doubtful image torn))) run

      pub not_settled : (image : List ℕ) → left new (moment new) image → StandsFor (bodies_of j) (doubt_of j) image
      not_settled image is = back image (gate_torn (bodies_of j) j.end s.end images body all_doubtful image (now_has moment left j.disk new _ run image is))

    pub settled : (seen : Option (List ℕ)) → ((file : List ℕ) → seen ≡ Some file → images file) → (image : List ℕ) → IsPut j.end (0 ∷ []) seen image → IsClosed (bodies_of j) image
    settled seen reads image put = gate_shut (bodies_of j) j.end s.end images body all_doubtful seen reads image put

  -- ---- none in doubt
  module _ (sure : doubt_of j ≡ None) where
    all_closed : (image : List ℕ) → images image → IsClosed (bodies_of j) image
    all_closed image is = stands_as (bodies_of j) (doubt_of j) None image sure (s.images image is)

    closed_stands : (image : List ℕ) → IsClosed (bodies_of j) image → StandsFor (bodies_of j) (doubt_of j) image
    closed_stands image is = stands_as (bodies_of j) None (doubt_of j) image (sym sure) is

    module _ (new : D) (n : ℕ) (run : LeavesOnly moment left j.disk new (TornFrom (j.end + 1) n images)) where
      pub staging : LeavesOnly moment left j.disk new (IsClosed (bodies_of j))
      staging = weaker moment left j.disk new _ _ (λ image torn. closed_torn (bodies_of j) j.end s.end images all_closed n image torn) run

      pub still_closed : (image : List ℕ) → left new (moment new) image → StandsFor (bodies_of j) (doubt_of j) image
      still_closed image is = closed_stands image (closed_torn (bodies_of j) j.end s.end images all_closed n image (now_has moment left j.disk new _ run image is))

    pub staged_now : (seen : Option (List ℕ)) → ((file : List ℕ) → seen ≡ Some file → images file) → (body image : List ℕ) → IsPut (j.end + 1) (record_of body ++ 0 ∷ []) seen image → IsDoubtful (bodies_of j) body image
    staged_now seen reads body image put = staged (bodies_of j) j.end s.end images all_closed seen reads body image put

  -- ---- one that is staged
  module _ (body : List ℕ) (small : length body < 256 ^ 4) (all : (image : List ℕ) → images image → IsDoubtful (bodies_of j) body image) where
    module _ (new : D) (run : LeavesOnly moment left j.disk new (TornFrom j.end 1 images)) where
      pub opening : LeavesOnly moment left j.disk new (Holds (bodies_of j) (Some body))
      opening = weaker moment left j.disk new _ _ (λ image torn. now_holds (bodies_of j) (Some body) s.short small image (gate_torn (bodies_of j) j.end s.end images body all image torn)) run

      pub in_doubt_now : (image : List ℕ) → left new (moment new) image → IsDoubtful (bodies_of j) body image
      in_doubt_now image is = gate_torn (bodies_of j) j.end s.end images body all image (now_has moment left j.disk new _ run image is)

    pub opened_now : (seen : Option (List ℕ)) → ((file : List ℕ) → seen ≡ Some file → images file) → (image : List ℕ) → IsPut j.end (1 ∷ []) seen image → IsClosed (bodies_of j ++ body ∷ []) image
    opened_now seen reads image put = gate_opened (bodies_of j) j.end s.end images body all seen reads image put

module _ {D : Type 0} (moment : D → ℕ) (left : D → ℕ → List ℕ → Type 0) (bodies : List (List ℕ)) (doubt : Option (List ℕ)) (short : AreShort bodies) (small : IfSome doubt (λ d. length d < 256 ^ 4)) (body : List ℕ) where
  -- settled, or not
  pub settles : (old new : D) → LeavesOnly moment left old new (Holds bodies doubt) → LeavesOnly moment left old new (WhileAdding bodies doubt body)
  settles old new run = weaker moment left old new _ _ (λ image is. inl is) run

  -- settled, and then staged
  pub stages : (old mid new : D) → LeavesOnly moment left old mid (Holds bodies doubt) → LeavesOnly moment left mid new (IsClosed bodies) → LeavesOnly moment left old new (WhileAdding bodies doubt body)
  stages old mid new first second = joins moment left old mid new _ (settles old mid first) (weaker moment left mid new _ _ (λ image is. inl (closed_holds bodies doubt short small image is)) second)

  -- and then opened
  pub opens : (old mid behind new : D) → LeavesOnly moment left old mid (Holds bodies doubt) → LeavesOnly moment left mid behind (IsClosed bodies) → LeavesOnly moment left behind new (Holds bodies (Some body)) → LeavesOnly moment left old new (WhileAdding bodies doubt body)
  opens old mid behind new first second third = joins moment left old behind new _ (stages old mid behind first second) (weaker moment left behind new _ _ (λ image is. inr is) third)
