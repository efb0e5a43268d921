-- A flaw of a definition's body stands at one place.
use Rattle.std.proofs.Common.{◌≡◌, ◌<◌, ◌+◌, ℕ, List, map, take, sym, ap, ◌∙◌, subst, Option, Some}
use Rattle.std.specs.Prelude.{slice_get}
use Rattle.sap_terms.proofs.PlainLaws.Numbers.{same_number}
use Rattle.sap_terms.specs.Signature.{Sig}
use Rattle.sap_text.specs.declared.token.Token.{Token}
use Rattle.sap_grammar.specs.Cut.{Placed}
use Rattle.sap_grammar.specs.Words.{Word, words_of}
use Rattle.sap_macro.specs.Located.{Located}
use Rattle.sap_process.specs.Places.{IsBefore, Place, places}
use Rattle.sap_process.specs.Proc.{Proc}
use Rattle.sap_process.specs.Sites.{Above, Site, above_of, scope_below}
use Rattle.sap_process.specs.declared.flaw.Flaw.{Flaw}
use Rattle.sap_uses.specs.ScopeFlaws.{params_in_scope}
use Rattle.sap_nodes.specs.FlawNodes.{IsTold}
use Rattle.sap_origin.specs.Definitions.{LocatedDefinition, plain_definition}
use Rattle.sap_origin.specs.Meant.{definition_of}
use Rattle.sap_origin.specs.Origins.{start}
use Rattle.sap_origin.specs.Reached.{number_of}
use Rattle.sap_origin.specs.Reached as reached
use Rattle.sap_seen.specs.SeenNodes.{seen_numbers}
use Rattle.sap_seen.specs.SeenPlaces.{ComesSeen, seen_of}
use Rattle.sap_head_words.specs.HeadWords.{HeadWords}
use Rattle.sap_read.specs.Item.{Standing, signature_of}
use Rattle.sap_read.specs.ItemGrammar.{AreItems}
use Rattle.sap_read.specs.SpelledBodies.{item_end}
use Rattle.sap_read_places.specs.declared.told.Told.{Told}
use Rattle.sap_read_places.specs.BodyFlawPlaces.{IsBodyFlawPlace, IsSeenNodeTold, body_sites}
use Rattle.sap_read_places.specs.Placed.{stretch_before}
use Rattle.sap_read_places.proofs.Along.{SameDefinitions, SameTokens}
use Rattle.sap_read_places.proofs.FlawOne.{OneHead, OneNode, not_before_itself, one_told}
use Rattle.sap_read_places.proofs.PlacedFiles.{OneCut, OneItems}

some_same : {A : Type 0} {a b : A} → ◌≡◌ {A = Option A} (Some a) (Some b) → a ≡ b
some_same e = cc (e)

abbrev pub OneSeen : Type 0
OneSeen = (ds : List LocatedDefinition) (s z w : reached.Standing) (p q r : Located) (path : List ℕ) → ComesSeen ds s p path z q → ComesSeen ds s p path w r → (z ≡ w) × (q ≡ r)

-- ---- one word of a node

module _ (seen : OneSeen) (heads : OneHead) (g h : Sig) (z : List ℕ) (ts : List Token) (ds : List LocatedDefinition) (d : LocatedDefinition) (path : List ℕ) (k : ℕ) (t u : Told)
    (a : IsSeenNodeTold g z ts ds d path k t) (b : IsSeenNodeTold h z ts ds d path k u) where
  ends_same : (a.standing ≡ b.standing) × (a.place ≡ b.place)
  ends_same = seen ds (start d.behind) a.standing b.standing d.body a.place b.place path a.comes b.comes

  -- the words from the place on are the same
  abbrev end_of : reached.Standing → Located → List Word
  end_of s q = item_end (words_of z ts) (number_of q) s.behind

  numbers_same : a.numbers ≡ b.numbers
  numbers_same =
      heads g h b.place (end_of b.standing b.place) a.numbers b.numbers
      (subst (λ (q : Located). HeadWords g q (end_of b.standing q) a.numbers) ends_same.1
      (subst (λ (s : reached.Standing). HeadWords g a.place (end_of s a.place) a.numbers) ends_same.0 a.head))
      b.head

  number_same : a.number ≡ b.number
  number_same =
      some_same (sym a.stands ∙ ap (λ (q : Located). slice_get (seen_numbers q a.numbers) k) ends_same.1 ∙ ap (λ (ns : List ℕ). slice_get (seen_numbers b.place ns) k) numbers_same ∙ b.stands)

  word_same : t.word ≡ u.word
  word_same =
      a.word_is ∙ ap (λ (n : ℕ). stretch_before ts (n + a.standing.behind)) number_same ∙ ap (λ (s : reached.Standing). stretch_before ts (b.number + s.behind)) ends_same.0 ∙ sym b.word_is

  uses_same : t.uses ≡ u.uses
  uses_same = a.uses_are ∙ ap (λ (s : reached.Standing). map (stretch_before ts) s.uses) ends_same.0 ∙ sym b.uses_are

  pub one_seen_told : t ≡ u
  one_seen_told = λ i. record { word = word_same i; uses = uses_same i }

-- ---- at one place of the list it stands

abbrev pub PlacesInOrder : Type 0
PlacesInOrder = (p : Proc) (s : Above) (i j : ℕ) (x y : Place Above) → i < j → slice_get (places scope_below s p) i ≡ Some x → slice_get (places scope_below s p) j ≡ Some y → IsBefore x.path y.path

module _ (order : PlacesInOrder) (ds : List LocatedDefinition) (d : LocatedDefinition) (path : List ℕ) where
  not_less : (i j : ℕ) (s t : Site) → slice_get (body_sites ds d) i ≡ Some s → slice_get (body_sites ds d) j ≡ Some t → s.path ≡ path → t.path ≡ path → i < j → ⊥
  not_less i j s t a b e f low =
      not_before_itself path (subst (λ (q : List ℕ). IsBefore path q) f
      (subst (λ (q : List ℕ). IsBefore q t.path) e (order (seen_of ds d.body) (above_of (params_in_scope (plain_definition d)) 0) i j s t low a b)))

  pub one_body_number : (i j : ℕ) (s t : Site) → slice_get (body_sites ds d) i ≡ Some s → slice_get (body_sites ds d) j ≡ Some t → s.path ≡ path → t.path ≡ path → i ≡ j
  one_body_number i j s t a b e f = same_number i j (not_less i j s t a b e f) (not_less j i t s b a f e)

-- ---- a file has one such place

module _ (tokens : SameTokens) (definitions : SameDefinitions) (cuts : OneCut) (items : OneItems) (seen : OneSeen) (heads : OneHead) (node : OneNode) (order : PlacesInOrder) (z name : List ℕ)
    (w : Flaw) (path : List ℕ) (s t : Told) (a : IsBodyFlawPlace z name w path s) (b : IsBodyFlawPlace z name w path t) where
  tokens_same : a.tokens ≡ b.tokens
  tokens_same = tokens z a.tokens b.tokens a.definitions b.definitions a.main b.main a.placed b.placed

  definitions_same : a.definitions ≡ b.definitions
  definitions_same = definitions z a.tokens b.tokens a.definitions b.definitions a.main b.main a.placed b.placed

  cut_same : a.placed.cut ≡ b.placed.cut
  cut_same = cuts z a.tokens b.tokens a.placed.name b.placed.name a.placed.cut b.placed.cut a.placed.parted b.placed.parted

  standing_same : a.placed.standing ≡ b.placed.standing
  standing_same =
      items b.placed.cut a.placed.standing b.placed.standing
      (subst (λ (c : List (List Placed)). AreItems (signature_of a.placed.standing) c a.placed.standing) cut_same a.placed.items) b.placed.items

  definition_same : a.definition ≡ b.definition
  definition_same = some_same (sym a.defines ∙ ap (λ (ds : List LocatedDefinition). definition_of ds name) definitions_same ∙ b.defines)

  stands_too : slice_get (body_sites b.definitions b.definition) a.number ≡ Some a.site
  stands_too =
      subst (λ (d : LocatedDefinition). slice_get (body_sites b.definitions d) a.number ≡ Some a.site) definition_same
      (subst (λ (ds : List LocatedDefinition). slice_get (body_sites ds a.definition) a.number ≡ Some a.site) definitions_same a.stands)

  number_is : a.number ≡ b.number
  number_is = one_body_number order b.definitions b.definition path a.number b.number a.site b.site stands_too b.stands a.path_is b.path_is

  site_same : a.site ≡ b.site
  site_same = some_same (sym stands_too ∙ ap (slice_get (body_sites b.definitions b.definition)) number_is ∙ b.stands)

  speaks_too : IsTold (signature_of b.placed.standing) (take b.number (body_sites b.definitions b.definition)) b.site w (Some a.node)
  speaks_too =
      subst (λ (is : List Standing). IsTold (signature_of is) (take b.number (body_sites b.definitions b.definition)) b.site w (Some a.node)) standing_same
      (subst (λ (v : Site). IsTold (signature_of a.placed.standing) (take b.number (body_sites b.definitions b.definition)) v w (Some a.node)) site_same
      (subst (λ (n : ℕ). IsTold (signature_of a.placed.standing) (take n (body_sites b.definitions b.definition)) a.site w (Some a.node)) number_is
      (subst (λ (d : LocatedDefinition). IsTold (signature_of a.placed.standing) (take a.number (body_sites b.definitions d)) a.site w (Some a.node)) definition_same
      (subst (λ (ds : List LocatedDefinition). IsTold (signature_of a.placed.standing) (take a.number (body_sites ds a.definition)) a.site w (Some a.node)) definitions_same a.speaks))))

  node_same : a.node ≡ b.node
  node_same = one_told node (signature_of b.placed.standing) (take b.number (body_sites b.definitions b.definition)) b.site w a.node b.node speaks_too b.speaks

  told_too : IsSeenNodeTold (signature_of a.placed.standing) z b.tokens b.definitions b.definition path b.node s
  told_too =
      subst (λ (k : ℕ). IsSeenNodeTold (signature_of a.placed.standing) z b.tokens b.definitions b.definition path k s) node_same
      (subst (λ (d : LocatedDefinition). IsSeenNodeTold (signature_of a.placed.standing) z b.tokens b.definitions d path a.node s) definition_same
      (subst (λ (ds : List LocatedDefinition). IsSeenNodeTold (signature_of a.placed.standing) z b.tokens ds a.definition path a.node s) definitions_same
      (subst (λ (us : List Token). IsSeenNodeTold (signature_of a.placed.standing) z us a.definitions a.definition path a.node s) tokens_same a.told)))

  pub one_body_flaw_place : s ≡ t
  one_body_flaw_place =
      one_seen_told seen heads (signature_of a.placed.standing) (signature_of b.placed.standing) z b.tokens b.definitions b.definition path b.node s t told_too b.told
