-- Nodes of a definition's body by hand.
use Rattle.std.proofs.Common.{◌≡◌, ℕ, ◌+◌, List, [], ◌∷◌, Option, Some, None, map, sym, ap, ◌∙◌, subst}
use Rattle.std.specs.Prelude.{slice_get}
use Rattle.sap_terms.specs.Signature.{Sig}
use Rattle.sap_text.specs.declared.token.Token.{Token}
use Rattle.sap_grammar.specs.TermGrammar.{IsConstant, list_last, term_message}
use Rattle.sap_grammar.specs.Words.{Word, words_of}
use Rattle.sap_macro.specs.Located.{Located}
use Rattle.sap_origin.specs.Origins.{start}
use Rattle.sap_origin.specs.Reached.{number_of}
use Rattle.sap_origin.specs.Reached as reached
use Rattle.sap_seen.specs.Examples.{SeesAt, all_four, b_body}
use Rattle.sap_seen.specs.SeenNodes.{seen_numbers}
use Rattle.sap_head_words.specs.HeadWords.{HeadWords, words_use}
use Rattle.sap_read.specs.SpelledBodies.{item_end}
use Rattle.sap_read_places.specs.declared.told.Told.{Told}
use Rattle.sap_read_places.specs.BodyFlawExamples.{IsUseSpelled, a_use, b_is, told_before, use_words}
use Rattle.sap_read_places.specs.BodyFlawPlaces.{IsSeenNodeTold}
use Rattle.sap_read_places.specs.Placed.{stretch_before}
use Rattle.sap_read_places.proofs.BodyFlawOne.{OneSeen, one_seen_told}
use Rattle.sap_read_places.proofs.FlawOne.{OneHead}

use_head : (g : Sig) (x : List ℕ) → (IsConstant g x → ⊥) → HeadWords g (a_use x) (use_words x) (2 ∷ [])
use_head g x free = words_use (list_last (term_message free))

module _ (g : Sig) (z : List ℕ) (ts : List Token) (path x : List ℕ) (behind : ℕ) (us : List ℕ) (s : SeesAt path (a_use x) behind us) (spelled : IsUseSpelled g z ts x behind) where
  head : HeadWords g (a_use x) (item_end (words_of z ts) 4 s.standing.behind) (2 ∷ [])
  head =
      subst (λ (n : ℕ). HeadWords g (a_use x) (item_end (words_of z ts) 4 n) (2 ∷ [])) s.behind_is
      (subst (λ (ws : List Word). HeadWords g (a_use x) ws (2 ∷ [])) (sym spelled.0) (use_head g x spelled.1))

  pub use_node_told : (k n : ℕ) → slice_get (4 ∷ 2 ∷ []) k ≡ Some n → IsSeenNodeTold g z ts all_four b_is path k (told_before ts (n + behind) us)
  use_node_told k n e = record {
    standing = s.standing;
    place = a_use x;
    comes = s.comes;
    numbers = 2 ∷ [];
    head = head;
    number = n;
    stands = e;
    word_is = ap (λ (b : ℕ). stretch_before ts (n + b)) s.behind_is;
    uses_are = ap (λ (vs : List ℕ). map (stretch_before ts) vs) s.uses_are;
  }

  module _ (seen : OneSeen) (heads : OneHead) where
    pub only_use_node : (k n : ℕ) → slice_get (4 ∷ 2 ∷ []) k ≡ Some n → (t : Told) → IsSeenNodeTold g z ts all_four b_is path k t → t ≡ told_before ts (n + behind) us
    only_use_node k n e t a = one_seen_told seen heads g g z ts all_four b_is path k t (told_before ts (n + behind) us) a (use_node_told k n e)

    -- no node has another number
    pub no_use_node : (k : ℕ) → ◌≡◌ {A = Option ℕ} (slice_get (4 ∷ 2 ∷ []) k) None → (t : Told) → IsSeenNodeTold g z ts all_four b_is path k t → ⊥
    no_use_node k none t a =
        let same = seen all_four (start 7) a.standing s.standing b_body a.place (a_use x) path a.comes s.comes in
        let there : HeadWords g (a_use x) (item_end (words_of z ts) 4 s.standing.behind) a.numbers =
        subst (λ (p : Located). HeadWords g p (item_end (words_of z ts) (number_of p) s.standing.behind) a.numbers) same.1
        (subst (λ (v : reached.Standing). HeadWords g a.place (item_end (words_of z ts) (number_of a.place) v.behind) a.numbers) same.0 a.head) in
        let numbers : a.numbers ≡ 2 ∷ [] = heads g g (a_use x) (item_end (words_of z ts) 4 s.standing.behind) a.numbers (2 ∷ []) there head in
        let stands : slice_get (4 ∷ 2 ∷ []) k ≡ Some a.number =
        ap (λ (ns : List ℕ). slice_get (seen_numbers (a_use x) ns) k) (sym numbers) ∙ ap (λ (p : Located). slice_get (seen_numbers p a.numbers) k) (sym same.1) ∙ a.stands in
        let clash : ◌≡◌ {A = Option ℕ} None (Some a.number) = sym none ∙ stands in
        absurd (cc (clash))
