-- Facts of embedded rules: where a table says of each live fact which it is in another pile, what one pile gives the other gives too.
use Rattle.std.proofs.Common.{◌≡◌, ℕ, List, [], ◌∷◌, Some, None, refl, sym, ◌∙◌, ap, subst, Bool, true, false, map, slice_get, slice_set}
use Rattle.std.specs.Prelude.{if◌then◌else◌}
use Rattle.sap_terms.specs.Piles.{Pile, Takes, used}
use Rattle.sap_terms.specs.Reserved.{is_reserved}
use Rattle.sap_terms.specs.declared.fact.Fact.{Fact}
use Rattle.sap_translate.specs.Members.{Member}
use Rattle.sap_translate.specs.Scoped.{AreUnreserved}
use Rattle.sap_back.proofs.Seats.{was_there}
use Rattle.sap_translate.proofs.Shared.Lookups.{get-set_other, get-set_same}

-- a live fact with a name of its own is live in the other pile, with the number that the table has for it, and has it alone
pub record Corresponds (numbers : List ℕ) (xs ys : Pile) : Type 0 where
  pub number : (k : ℕ) (f : Fact) → slice_get xs k ≡ Some (Some f) → (j : ℕ) × (slice_get numbers k ≡ Some j)
  pub there : (k j : ℕ) (f : Fact) → is_reserved f.name ≡ false → slice_get xs k ≡ Some (Some f) → slice_get numbers k ≡ Some j → slice_get ys j ≡ Some (Some f)
  pub apart : (k i j : ℕ) (f h : Fact) → is_reserved f.name ≡ false → is_reserved h.name ≡ false → slice_get xs k ≡ Some (Some f) → slice_get xs i ≡ Some (Some h) → slice_get numbers k ≡ Some j → slice_get numbers i ≡ Some j → k ≡ i

gone : (xs : Pile) (k : ℕ) (f h : Fact) → slice_get xs k ≡ Some (Some f) → slice_get (slice_set xs k None) k ≡ Some (Some h) → ⊥
gone xs k f h e i = let z : Some None ≡ Some (Some h) = sym (get-set_same xs k (Some f) None e) ∙ i in absurd (cc)

-- so it is where the same fact is used in both
pub used_both : {numbers : List ℕ} {xs ys : Pile} (k j : ℕ) (f : Fact) → is_reserved f.name ≡ false → slice_get xs k ≡ Some (Some f) → slice_get numbers k ≡ Some j → Corresponds numbers xs ys → Corresponds numbers (used xs k f) (used ys j f)
used_both {numbers = numbers} {xs = xs} {ys = ys} k j f own live is same = go f.persistent
  where
    go : (b : Bool) → Corresponds numbers (if b then xs else slice_set xs k None) (if b then ys else slice_set ys j None)
    go true = same
    go false = record {
      number = λ i h e. same.number i h (was_there xs k i h e);
      there = λ i m h u e n.
          get-set_other ys j m None (λ z. let one : k ≡ i = same.apart k i j f h own u live (was_there xs k i h e) is (n ∙ ap (λ o. Some o) (sym z)) in gone xs k f h live (subst (λ o. slice_get (slice_set xs k None) o ≡ Some (Some h)) (sym one) e))
          ∙ same.there i m h u (was_there xs k i h e) n;
      apart = λ i m o h a u v e g n q. same.apart i m o h a u v (was_there xs k i h e) (was_there xs k m a g) n q;
    }

-- these facts are taken from the other pile too, with the numbers that the table has
pub record TakenThere (numbers : List ℕ) (ys : Pile) (ks : List ℕ) (fs : List Fact) : Type 0 where
  pub js : List ℕ
  pub are : map (slice_get numbers) ks ≡ map Some js
  pub left : Pile
  pub takes : Takes ys js fs left

pub take_there : {numbers : List ℕ} {xs rest : Pile} {ks : List ℕ} {fs : List Fact} (ys : Pile) → Corresponds numbers xs ys → AreUnreserved fs → Takes xs ks fs rest → TakenThere numbers ys ks fs
take_there ys same own Takes.nothing = record { js = []; are = refl; left = ys; takes = Takes.nothing }
take_there {numbers = numbers} ys same own (Takes.one {k = k} {f = f} live more) =
    let n = same.number k f live in
    let user = own f Member.here in
    let next = take_there (used ys n.0 f) (used_both k n.0 f user live n.1 same) (λ h m. own h (Member.later m)) more in
    record { js = n.0 ∷ next.js; are = λ i. n.1 i ∷ next.are i; left = next.left; takes = Takes.one (same.there k n.0 f user live n.1) next.takes }
