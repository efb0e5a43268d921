-- What small steps do, and nothing else.
use Rattle.std.proofs.Common.{◌≡◌, ℕ, zero, suc, List, [], ◌∷◌, Option, Some, None, Bool, true, false, slice_get, refl, sym, ap, subst, ◌∙◌, inl, inr}
use Rattle.std.specs.Prelude.{Contains, codes}
use Rattle.std.specs.List.{AllZip}
use Rattle.sap_rewrite.specs.Laws.{FormIsOne}
use Rattle.sap_terms.specs.AdversaryFacts.{k_fact}
use Rattle.sap_terms.specs.Equal.{IsTheoryEqual, same}
use Rattle.sap_terms.specs.Equations.{equations, first}
use Rattle.sap_terms.specs.Message.{IsMessage}
use Rattle.sap_terms.specs.Modulo.{IsEqualFact, IsFormOfFact}
use Rattle.sap_terms.specs.Normal.{IsNormal, IsNormalForm}
use Rattle.sap_terms.specs.Piles.{Pile, Takes, used, adds}
use Rattle.sap_terms.specs.Signature.{Sig}
use Rattle.sap_terms.specs.Tree.{Tree, fresh}
use Rattle.sap_terms.specs.declared.fact.Fact.{Fact}
use Rattle.sap_terms.specs.declared.var.Sort.{Sort}
use Rattle.sap_process.specs.Action as action
use Rattle.sap_process.specs.Configuration.{Config, CanGive, stored, marked}
use Rattle.sap_process.specs.Proc.{Proc, nil, act}
use Rattle.sap_process.specs.ProcessSteps.{ProcessStep}
use Rattle.sap_process.specs.StepExamples.{a, b, c, pair, first_of_pair, shown_fact, right_fact, left_fact, showing, alone, only, x_of, inputting, sending, receiving, ruling}
use Rattle.sap_process.proofs.Members.{member-head}
use Rattle.sap_process.proofs.NoSteps.{Goes, shown_by, unsent}
use Rattle.sap_process.proofs.OneThread.{ByAdversary, alone_goes, threads_stay}
use Rattle.sap_process.proofs.StepLemmas.{own_form, first_form, public_normal, no_left_side, one_form, value, value_equal}

-- the threads stay where the adversary alone does something
stays_not : {g : Sig} {c d : Config} {label : List Fact} (p : Proc) (ts : List (Option Proc)) → ByAdversary g c d label → c.threads ≡ Some p ∷ [] → d.threads ≡ ts
    → Some p ∷ [] ≡ ts
stays_not p ts by h e = sym h ∙ sym (threads_stay by) ∙ e

module _ (one : FormIsOne) (g : Sig) where
  is_a : (k : Tree) → IsNormalForm (equations g) first_of_pair k → k ≡ a
  is_a k form = one (equations g) first_of_pair k a form (first_form (equations g))

  pub sent_is : (d : Config) (label : List Fact) → ProcessStep g (alone (act (action.out first_of_pair) (showing b))) label d
      → d.threads ≡ Some (showing b) ∷ [] → (label ≡ []) × (d.frame ≡ a ∷ [])
  sent_is d label step e = go (alone_goes (act (action.out first_of_pair) (showing b)) step refl)
    where
      go : Goes g (alone (act (action.out first_of_pair) (showing b))) d label (act (action.out first_of_pair) (showing b)) → (label ≡ []) × (d.frame ≡ a ∷ [])
      go (inl (t, set, (n, form, quiet, on))) = (quiet, ap (λ (c : Config). c.frame) on ∙ ap (λ t. t ∷ []) (is_a n form))
      go (inr w) = absurd (let no = stays_not (act (action.out first_of_pair) (showing b)) (Some (showing b) ∷ []) w refl e in cc)

  pub sent_on : (d : Config) (label : List Fact) → ProcessStep g (alone (sending c first_of_pair)) label d → d.threads ≡ Some (showing b) ∷ []
      → (label ≡ k_fact c ∷ []) × (d.frame ≡ a ∷ [])
  sent_on d label step e = go (alone_goes (sending c first_of_pair) step refl)
    where
      go : Goes g (alone (sending c first_of_pair)) d label (sending c first_of_pair) → (label ≡ k_fact c ∷ []) × (d.frame ≡ a ∷ [])
      go (inl (t, set, (k, u, form, can, sent, shows, on))) = (
        shows ∙ ap (λ t. k_fact t ∷ []) (one (equations g) c k c form (own_form (equations g) (codes "c"))),
        ap (λ (c : Config). c.frame) on ∙ ap (λ t. t ∷ []) (is_a u sent),
      )
      go (inr w) = absurd (let no = stays_not (sending c first_of_pair) (Some (showing b) ∷ []) w refl e in cc)

  abbrev hiding : Config
  hiding = record (alone (sending (fresh 4) a)) { made = 4 ∷ [] }

  pub sent_to_nobody : (d : Config) (label : List Fact) → ProcessStep g hiding label d → d.threads ≡ Some (sending (fresh 4) a) ∷ []
  sent_to_nobody d label step = go (alone_goes (sending (fresh 4) a) step refl)
    where
      go : Goes g hiding d label (sending (fresh 4) a) → d.threads ≡ Some (sending (fresh 4) a) ∷ []
      go (inl (t, set, (k, u, form, can, sent, shows, on))) = absurd (unsent g hiding k 4 refl refl can (sym (value_equal form.equal)))
      go (inr w) = threads_stay w

  -- what is given is what is bound
  is_given : (v t : Tree) → IsTheoryEqual (equations g) v t → IsNormal (equations g) t → IsNormal (equations g) v → t ≡ v
  is_given v t equal n m = one (equations g) v t v (record { equal = equal; normal = n }) (record { equal = same; normal = m })

  pub given_is : (s : Sort) (v : Tree) (d : Config) (label : List Fact) → ProcessStep g (alone (inputting s)) label d → d.threads ≡ Some (showing v) ∷ []
      → (label ≡ k_fact v ∷ []) × CanGive g (alone (inputting s)) v × IsMessage g s v
  given_is s v d label step e = go (alone_goes (inputting s) step refl)
    where
      go : Goes g (alone (inputting s)) d label (inputting s) → (label ≡ k_fact v ∷ []) × CanGive g (alone (inputting s)) v × IsMessage g s v
      go (inl (t, set, r)) =
          let told : r.choice (x_of s) ≡ v = ap shown_by (sym (ap (λ (c : Config). c.threads) r.on ∙ set (Some (showing (r.choice (x_of s))))) ∙ e) in
          let message : IsMessage g s v = subst (IsMessage g s) told (r.fits.messages (x_of s)) in
          let is : r.term ≡ v = is_given v r.term (subst (λ w. IsTheoryEqual (equations g) w r.term) told r.fits.equal) r.given.normal message.normal in
          (r.shown ∙ ap (λ t. k_fact t ∷ []) is, subst (CanGive g (alone (inputting s))) is r.given, message)
      go (inr w) = absurd (let no = stays_not (inputting s) (Some (showing v) ∷ []) w refl e in cc)

  pair_is_normal : (v : Tree) → IsNormal (equations g) v → IsNormal (equations g) (pair c v)
  pair_is_normal v n = (no_left_side (equations g) (pair c v) refl, (public_normal (equations g) (codes "c"), (n, tt)))

  pub given_on : (s : Sort) (v : Tree) (d : Config) (label : List Fact) → ProcessStep g (alone (receiving c s)) label d → d.threads ≡ Some (showing v) ∷ []
      → (label ≡ k_fact (pair c v) ∷ []) × CanGive g (alone (receiving c s)) (pair c v) × IsMessage g s v
  given_on s v d label step e = go (alone_goes (receiving c s) step refl)
    where
      go : Goes g (alone (receiving c s)) d label (receiving c s)
          → (label ≡ k_fact (pair c v) ∷ []) × CanGive g (alone (receiving c s)) (pair c v) × IsMessage g s v
      go (inl (t, set, r)) =
          let told : r.choice (x_of s) ≡ v = ap shown_by (sym (ap (λ (c : Config). c.threads) r.on ∙ set (Some (showing (r.choice (x_of s))))) ∙ e) in
          let message : IsMessage g s v = subst (IsMessage g s) told (r.messages (x_of s)) in
          let is : r.term ≡ pair c v = is_given (pair c v) r.term (subst (λ w. IsTheoryEqual (equations g) (pair c w) r.term) told r.equal) r.given.normal
          (pair_is_normal v message.normal) in
          (r.shown ∙ ap (λ t. k_fact t ∷ []) is, subst (CanGive g (alone (receiving c s))) is r.given, message)
      go (inr w) = absurd (let no = stays_not (receiving c s) (Some (showing v) ∷ []) w refl e in cc)

  pub shown_is : (d : Config) (label : List Fact) → ProcessStep g (alone (showing first_of_pair)) label d → d.threads ≡ Some nil ∷ [] → label ≡ shown_fact a ∷ []
  shown_is d label step e = go (alone_goes (showing first_of_pair) step refl)
    where
      go : Goes g (alone (showing first_of_pair)) d label (showing first_of_pair) → label ≡ shown_fact a ∷ []
      go (inl (t, set, (h, form, shows, on))) = shows ∙ ap (λ f. f ∷ []) (one_form one g (codes "A") first_of_pair a h (first_form (equations g)) form)
      go (inr w) = absurd (let no = stays_not (showing first_of_pair) (Some nil ∷ []) w refl e in cc)

  pub inserted_is : (d : Config) (label : List Fact) → ProcessStep g (alone (act (action.insert first_of_pair first_of_pair) (showing b))) label d
      → d.threads ≡ Some (showing b) ∷ [] → d.store ≡ only a a
  inserted_is d label step e = go (alone_goes (act (action.insert first_of_pair first_of_pair) (showing b)) step refl)
    where
      go : Goes g (alone (act (action.insert first_of_pair first_of_pair) (showing b))) d label (act (action.insert first_of_pair first_of_pair) (showing b))
          → d.store ≡ only a a
      go (inl (t, set, (k, v, key, form, quiet, on))) =
          ap (λ (c : Config). c.store) on ∙ ap (λ k. only k v) (is_a k key) ∙ ap (only a) (is_a v form)
      go (inr w) =
          absurd (let no = stays_not (act (action.insert first_of_pair first_of_pair) (showing b)) (Some (showing b) ∷ []) w refl e in cc)

  pub deleted_is : (store : Tree → Option Tree) (d : Config) (label : List Fact)
      → ProcessStep g (record (alone (act (action.delete first_of_pair) (showing b))) { store = store }) label d → d.threads ≡ Some (showing b) ∷ []
      → d.store ≡ stored store a None
  deleted_is store d label step e = go (alone_goes (act (action.delete first_of_pair) (showing b)) step refl)
    where
      go : Goes g (record (alone (act (action.delete first_of_pair) (showing b))) { store = store }) d label (act (action.delete first_of_pair) (showing b))
          → d.store ≡ stored store a None
      go (inl (t, set, (k, key, quiet, on))) = ap (λ (c : Config). c.store) on ∙ ap (λ k. stored store k None) (is_a k key)
      go (inr w) = absurd (let no = stays_not (act (action.delete first_of_pair) (showing b)) (Some (showing b) ∷ []) w refl e in cc)

  pub locked_is : (held : Tree → Bool) (d : Config) (label : List Fact)
      → ProcessStep g (record (alone (act (action.lock first_of_pair 0) (showing b))) { held = held }) label d → d.threads ≡ Some (showing b) ∷ []
      → (held a ≡ false) × (d.held ≡ marked held a true)
  locked_is held d label step e = go (alone_goes (act (action.lock first_of_pair 0) (showing b)) step refl)
    where
      go : Goes g (record (alone (act (action.lock first_of_pair 0) (showing b))) { held = held }) d label (act (action.lock first_of_pair 0) (showing b))
          → (held a ≡ false) × (d.held ≡ marked held a true)
      go (inl (t, set, (k, form, free, quiet, on))) =
          (subst (λ k. held k ≡ false) (is_a k form) free, ap (λ (c : Config). c.held) on ∙ ap (λ k. marked held k true) (is_a k form))
      go (inr w) = absurd (let no = stays_not (act (action.lock first_of_pair 0) (showing b)) (Some (showing b) ∷ []) w refl e in cc)

  pub unlocked_is : (held : Tree → Bool) (d : Config) (label : List Fact)
      → ProcessStep g (record (alone (act (action.unlock first_of_pair 0) (showing b))) { held = held }) label d → d.threads ≡ Some (showing b) ∷ []
      → d.held ≡ marked held a false
  unlocked_is held d label step e = go (alone_goes (act (action.unlock first_of_pair 0) (showing b)) step refl)
    where
      go : Goes g (record (alone (act (action.unlock first_of_pair 0) (showing b))) { held = held }) d label (act (action.unlock first_of_pair 0) (showing b))
          → d.held ≡ marked held a false
      go (inl (t, set, (k, form, quiet, on))) = ap (λ (c : Config). c.held) on ∙ ap (λ k. marked held k false) (is_a k form)
      go (inr w) = absurd (let no = stays_not (act (action.unlock first_of_pair 0) (showing b)) (Some (showing b) ∷ []) w refl e in cc)

  -- the only fact is taken, and is equal to what is wanted
  abbrev TookOne : Fact → Pile → Type 0
  TookOne f rest = (f.name ≡ codes "L") × (f.persistent ≡ false) × AllZip (IsTheoryEqual (equations g)) (a ∷ []) f.args × (rest ≡ None ∷ [])

  no_more : {facts rest : Pile} {ks : List ℕ} {left : List Fact} → Takes facts ks left rest → left ≡ [] → rest ≡ facts
  no_more Takes.nothing e = refl
  no_more (Takes.one got tail) e = absurd (cc)

  only_there : (f h : Fact) (k : ℕ) → slice_get (Some f ∷ []) k ≡ Some (Some h) → (k ≡ 0) × (f ≡ h)
  only_there f h zero e = (refl, cc)
  only_there f h (suc k) e = absurd (cc)

  left_over : (f : Fact) (b : Bool) → f.persistent ≡ b → b ≡ false → used (Some f ∷ []) 0 f ≡ None ∷ []
  left_over f b e n = rw e (rw n refl)

  took_one : {facts rest : Pile} {ks : List ℕ} {left : List Fact} (f : Fact) → Takes facts ks left rest → facts ≡ Some f ∷ []
      → AllZip (IsEqualFact (equations g)) (left_fact a ∷ []) left → TookOne f rest
  took_one f Takes.nothing e equal = absurd equal
  took_one f (Takes.one {facts = facts} {rest = rest} {k = k} {f = h} {fs = []} got tail) e equal =
      let there = only_there f h k (subst (λ fs. slice_get fs k ≡ Some (Some h)) e got) in
      let off : f.persistent ≡ false = ap (λ (w : Fact). w.persistent) there.1 ∙ equal.0.persistent in
      let after : rest ≡ used (Some f ∷ []) 0 f =
      no_more tail refl ∙ ap (λ fs. used fs k h) e ∙ ap (λ k. used (Some f ∷ []) k h) there.0 ∙ ap (λ w. used (Some f ∷ []) 0 w) (sym there.1) in (
        ap (λ (w : Fact). w.name) there.1 ∙ equal.0.name,
        off,
        subst (λ (w : Fact). AllZip (IsTheoryEqual (equations g)) (a ∷ []) w.args) (sym there.1) equal.0.args,
        after ∙ left_over f f.persistent refl off,
      )
  took_one f (Takes.one {fs = h ∷ fs} got tail) e equal = absurd equal.1

  one_shown : (hs : List Fact) (name : List ℕ) → AllZip (IsFormOfFact (equations g)) (record { name = name; persistent = false; args = first_of_pair ∷ [] } ∷ []) hs
      → hs ≡ record { name = name; persistent = false; args = a ∷ [] } ∷ []
  one_shown [] name e = absurd e
  one_shown (h ∷ []) name e = ap (λ f. f ∷ []) (one_form one g name first_of_pair a h (first_form (equations g)) e.0)
  one_shown (h ∷ f ∷ fs) name e = absurd e.1

  abbrev Took : Fact → Config → List Fact → Type 0
  Took f d label =
      (f.name ≡ codes "L") × (f.persistent ≡ false) × AllZip (IsTheoryEqual (equations g)) (a ∷ []) f.args × (label ≡ shown_fact a ∷ [])
      × (d.facts ≡ None ∷ Some (right_fact a) ∷ [])

  pub rule_is : (f : Fact) (d : Config) (label : List Fact) → ProcessStep g (record (alone ruling) { facts = Some f ∷ [] }) label d → d.threads ≡ Some (showing b) ∷ []
      → Took f d label
  rule_is f d label step e = go (alone_goes ruling step refl)
    where
      go : Goes g (record (alone ruling) { facts = Some f ∷ [] }) d label ruling → Took f d label
      go (inl (t, set, r)) =
          let took = took_one f r.takes refl r.equal in (
            took.0,
            took.1,
            took.2,
            one_shown label (codes "A") r.acts,
            ap (λ (c : Config). c.facts) r.on ∙ ap (λ rest. adds rest r.added) took.3 ∙ ap (adds (None ∷ [])) (one_shown r.added (codes "M") r.right),
          )
      go (inr w) = absurd (let no = stays_not ruling (Some (showing b) ∷ []) w refl e in cc)

  abbrev ending : List ℕ → List ℕ → Config
  ending made own = record (alone nil) { made = made; own = own }

  pub own_is : (made : List ℕ) (n : ℕ) (d : Config) (label : List Fact) → ProcessStep g (ending made (3 ∷ [])) label d → d.own ≡ 3 ∷ n ∷ []
      → (¬ Contains made n) × (¬ (n ≡ 3))
  own_is made n d label step e = go (alone_goes nil step refl)
    where
      go : Goes g (ending made (3 ∷ [])) d label nil → (¬ Contains made n) × (¬ (n ≡ 3))
      go (inl (t, set, (quiet, on))) = absurd (let no : 3 ∷ [] ≡ 3 ∷ n ∷ [] = sym (ap (λ (c : Config). c.own) on) ∙ e in cc)
      go (inr (inl (m, unused, quiet, on))) =
          let same_list : 3 ∷ m ∷ [] ≡ 3 ∷ n ∷ [] = sym (ap (λ (c : Config). c.own) on) ∙ e in
          let is : m ≡ n = cc in
          (subst (λ k. ¬ Contains made k) is unused.0, λ three. unused.1 (subst (Contains (3 ∷ [])) (sym (is ∙ three)) (member-head 3 [])))
      go (inr (inr (t, can, told, on))) = absurd (let no : 3 ∷ [] ≡ 3 ∷ n ∷ [] = sym (ap (λ (c : Config). c.own) on) ∙ e in cc)

  abbrev first_arg : List Fact → Tree
  first_arg [] = a
  first_arg (f ∷ fs) = at_head f.args
    where
      at_head : List Tree → Tree
      at_head [] = a
      at_head (t ∷ ts) = t

  pub known_is : (t : Tree) (d : Config) (label : List Fact) → ProcessStep g (ending (4 ∷ []) []) label d → label ≡ k_fact t ∷ []
      → (¬ (t ≡ fresh 4)) × (¬ (t ≡ first_of_pair))
  known_is t d label step e = go (alone_goes nil step refl)
    where
      no_label : label ≡ [] → ⊥
      no_label n = let same_list : [] ≡ k_fact t ∷ [] = sym n ∙ e in cc

      go : Goes g (ending (4 ∷ []) []) d label nil → (¬ (t ≡ fresh 4)) × (¬ (t ≡ first_of_pair))
      go (inl (i, set, (quiet, on))) = absurd (no_label quiet)
      go (inr (inl (m, unused, quiet, on))) = absurd (no_label quiet)
      go (inr (inr (u, can, told, on))) =
          let is : u ≡ t = ap first_arg (sym told ∙ e) in (
            λ name. unsent g (ending (4 ∷ []) []) u 4 refl refl can (ap value (is ∙ name)),
            λ f. (subst (IsNormal (equations g)) (is ∙ f) can.normal).0 a first,
          )
