-- Through openings the faults are counted up.
use Rattle.std.proofs.Common.{ℕ, suc, ◌≤◌, Bool, true, false, List, [], ◌∷◌, ◌++◌, arith}
use Rattle.cluster_defs.specs.Cluster.{Cluster}
use Rattle.cluster_defs.specs.Counted.{AreCounted, AreLegal, AreOfOneDisk, faults_behind, histories}
use Rattle.cluster_defs.specs.Entries.{Entry, faults_of}
use Rattle.cluster_defs.specs.Legal.{GivenBack, IsLegalFrom, IsTold, back_at, given_back, says_disk}
use Rattle.cluster_defs.specs.Life.{Opening}
use Rattle.cluster_defs.specs.Opened.{opened}
use Rattle.cluster_defs.specs.Site.{Site}
use Rattle.cluster_defs.specs.Step.{step}
use Rattle.cluster_laws.specs.Places.{Every}

history_counted : (k : Site) (H : List Entry) (N : List GivenBack) (n faults : ℕ) (c : Cluster) → IsLegalFrom k n faults c N H → AreCounted faults H
history_counted k [] N n faults c legal = tt
history_counted k (e ∷ es) N n faults c legal = (legal.1.later, legal.1.told, history_counted k es N (suc n) e.after (step k (given_back (back_at n N) c) e.deed (faults_of e)).next legal.2)

counted_then : (xs ys : List Entry) (n : ℕ) → AreCounted n xs → AreCounted (faults_behind n xs) ys → AreCounted n (xs ++ ys)
counted_then [] ys n h later = later
counted_then (x ∷ xs) ys n h later = (h.0, h.1, counted_then xs ys x.after h.2 later)

counted_from : (m n : ℕ) (es : List Entry) → m ≤ n → AreCounted n es → AreCounted m es
counted_from m n [] le h = tt
counted_from m n (e ∷ es) le h = (omega (arith, le, h.0), h.1, h.2)

pub all_counted : (k : Site) (n : ℕ) (os : List Opening) → AreLegal k os → AreOfOneDisk n os → AreCounted n (histories os)
all_counted k n [] legal disk = tt
all_counted k n (o ∷ os) legal disk =
    counted_from n o.faults (o.history ++ histories os) disk.0 (counted_then o.history (histories os) o.faults (history_counted k o.history o.returned 0 o.faults (opened k legal.0.0 o.end) legal.0.1) (all_counted k (faults_behind o.faults o.history) os legal.1 disk.1))

told_le : (b : Bool) (m n : ℕ) → IsTold b m n → m ≤ n
told_le true m n h = omega (arith, h)
told_le false m n h = omega (arith, h)

pub none_falls : (n : ℕ) (es : List Entry) → AreCounted n es → Every (λ (e : Entry). e.before ≤ e.after) es
none_falls n [] h = tt
none_falls n (e ∷ es) h = (told_le (says_disk e.reply) e.before e.after h.1, none_falls e.after es h.2)

pub behind_all : (n : ℕ) (es : List Entry) → AreCounted n es → n ≤ faults_behind n es
behind_all n [] h = omega arith
behind_all n (e ∷ es) h = let x = told_le (says_disk e.reply) e.before e.after h.1 in let y = behind_all e.after es h.2 in omega (arith, x, y, h.0)
