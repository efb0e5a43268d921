-- Steps that are not there, by hand.
use Rattle.std.proofs.Common.{◌≡◌, ◌⊎◌, ℕ, zero, suc, List, [], ◌∷◌, Option, Some, None, Bool, true, false, IsTrue, slice_get, slice_set, refl, sym, ap, subst, ◌∙◌, inl, inr}
use Rattle.std.specs.Prelude.{Contains, codes}
use Rattle.std.specs.List.{AllZip}
use Rattle.sap_rewrite.specs.Laws.{FormIsOne}
use Rattle.sap_terms.specs.Choice.{Choice, instance, fits_sort}
use Rattle.sap_terms.specs.Equal.{IsTheoryEqual}
use Rattle.sap_terms.specs.Equations.{equations}
use Rattle.sap_terms.specs.Message.{IsMessage}
use Rattle.sap_terms.specs.Modulo.{IsEqualFact}
use Rattle.sap_terms.specs.Piles.{Pile, Takes, used}
use Rattle.sap_terms.specs.Same.{same_tree}
use Rattle.sap_terms.specs.Signature.{Sig}
use Rattle.sap_terms.specs.Tree.{Tree, variable, fresh}
use Rattle.sap_terms.specs.declared.fact.Fact.{Fact}
use Rattle.sap_terms.specs.declared.var.Sort.{Sort}
use Rattle.sap_terms.specs.declared.var.Sort.TheVariants.{Msg, Fresh, Pub}
use Rattle.sap_terms.specs.Variables.{tree_vars}
use Rattle.sap_process.specs.Action as action
use Rattle.sap_process.specs.Configuration.{Config, CanGive}
use Rattle.sap_process.specs.Proc as whole
use Rattle.sap_process.specs.Proc.{Proc, act}
use Rattle.sap_process.specs.ProcessSteps.{ProcessStep, Fits, with_choice}
use Rattle.sap_process.specs.StepExamples.{a, b, x, var_x, left_fact, showing, alone, running, input_shown, x_of, var_of, fresh_x, public_x, adding_public, taking_twice, sending, receiving}
use Rattle.sap_process.proofs.OneThread.{Origin, origin, After, ByAdversary, alone_goes, threads_stay}
use Rattle.sap_process.proofs.Members.{member-none}
use Rattle.sap_process.proofs.OwnNames.{HasOnly, deduced_has}
use Rattle.sap_process.proofs.StepLemmas.{own_form, value, value_equal, none_has}

-- what the one thread shows
abbrev pub shown_by : List (Option Proc) → Tree
shown_by (Some (act (action.event f) p) ∷ ts) = first f.args
  where
    first : List Tree → Tree
    first [] = a
    first (t ∷ us) = t
shown_by ts = a

abbrev locking : (Tree → Bool) → Config
locking held = record (alone (act (action.lock a 0) (showing b))) { held = held }

-- what one thread comes to, or the adversary
abbrev pub Goes : Sig → Config → Config → List Fact → Proc → Type 0
Goes g c d label p = ((t : ℕ) × ((o : Option Proc) → slice_set c.threads t o ≡ o ∷ []) × After g c d label t p) ⊎ ByAdversary g c d label

pub no_lock : FormIsOne → (g : Sig) (held : Tree → Bool) (d : Config) (label : List Fact) → held a ≡ true → ProcessStep g (locking held) label d
    → d.threads ≡ (locking held).threads
no_lock one g held d label taken step = go (alone_goes (act (action.lock a 0) (showing b)) step refl)
  where
    go : Goes g (locking held) d label (act (action.lock a 0) (showing b)) → d.threads ≡ (locking held).threads
    go (inl (t, set, (k, form, free, quiet, on))) = absurd (
        let at : k ≡ a = one (equations g) a k a form (own_form (equations g) (codes "a")) in
        let off : true ≡ false = sym taken ∙ subst (λ k. held k ≡ false) at free in
        cc
        )
    go (inr w) = threads_stay w

abbrev looking : (Tree → Option Tree) → Config
looking store = record (alone (whole.lookup a x (showing var_x) whole.nil)) { store = store }

pub no_find : FormIsOne → (g : Sig) (store : Tree → Option Tree) (d : Config) (label : List Fact) (v : Tree) → ProcessStep g (looking store) label d
    → d.threads ≡ Some (showing v) ∷ [] → store a ≡ Some v
no_find one g store d label v step e = go (alone_goes (whole.lookup a x (showing var_x) whole.nil) step refl)
  where
    go : Goes g (looking store) d label (whole.lookup a x (showing var_x) whole.nil) → store a ≡ Some v
    go (inl (t, set, (k, form, inl (w, has, quiet, on)))) =
        let at : k ≡ a = one (equations g) a k a form (own_form (equations g) (codes "a")) in
        let told : w ≡ v = ap shown_by (sym (ap (λ (c : Config). c.threads) on ∙ set (Some (showing w))) ∙ e) in
        subst (λ k. store k ≡ Some v) at (has ∙ ap (λ u. Some u) told)
    go (inl (t, set, (k, form, inr (has, quiet, on)))) =
        absurd (let same : Some whole.nil ∷ [] ≡ Some (showing v) ∷ [] = sym (ap (λ (c : Config). c.threads) on ∙ set (Some whole.nil)) ∙ e in cc)
    go (inr w) = absurd (let same : (looking store).threads ≡ Some (showing v) ∷ [] = sym (threads_stay w) ∙ e in cc)

pub no_miss : FormIsOne → (g : Sig) (store : Tree → Option Tree) (d : Config) (label : List Fact) → ProcessStep g (looking store) label d
    → d.threads ≡ Some whole.nil ∷ [] → store a ≡ None
no_miss one g store d label step e = go (alone_goes (whole.lookup a x (showing var_x) whole.nil) step refl)
  where
    go : Goes g (looking store) d label (whole.lookup a x (showing var_x) whole.nil) → store a ≡ None
    go (inl (t, set, (k, form, inl (w, has, quiet, on)))) =
        absurd (let same : Some (showing w) ∷ [] ≡ Some whole.nil ∷ [] = sym (ap (λ (c : Config). c.threads) on ∙ set (Some (showing w))) ∙ e in cc)
    go (inl (t, set, (k, form, inr (has, quiet, on)))) =
        let at : k ≡ a = one (equations g) a k a form (own_form (equations g) (codes "a")) in
        subst (λ k. store k ≡ None) at has
    go (inr w) = absurd (let same : (looking store).threads ≡ Some whole.nil ∷ [] = sym (threads_stay w) ∙ e in cc)

abbrev naming : List ℕ → List ℕ → Config
naming made own = record (alone (act (action.new x) (showing var_x))) { made = made; own = own }

pub no_name : (g : Sig) (made own : List ℕ) (d : Config) (label : List Fact) (n : ℕ) → ProcessStep g (naming made own) label d
    → d.threads ≡ Some (showing (fresh n)) ∷ [] → (¬ Contains made n) × (¬ Contains own n)
no_name g made own d label n step e = go (alone_goes (act (action.new x) (showing var_x)) step refl)
  where
    go : Goes g (naming made own) d label (act (action.new x) (showing var_x)) → (¬ Contains made n) × (¬ Contains own n)
    go (inl (t, set, (m, unused, quiet, on))) =
        let told : fresh m ≡ fresh n = ap shown_by (sym (ap (λ (c : Config). c.threads) on ∙ set (Some (showing (fresh m)))) ∙ e) in
        let is : m ≡ n = cc in
        subst (λ k. (¬ Contains made k) × (¬ Contains own k)) is unused
    go (inr w) = absurd (let same : (naming made own).threads ≡ Some (showing (fresh n)) ∷ [] = sym (threads_stay w) ∙ e in cc)

abbrev choosing : Tree → Tree → Proc
choosing m n = whole.test m n (showing a) (showing b)

-- 'a' and 'b' differ
not_b : a ≡ b → ⊥
not_b e = let p : false ≡ true = ap (λ t. same_tree t b) e in cc

pub no_then : (g : Sig) (m n : Tree) (d : Config) (label : List Fact) → ProcessStep g (alone (choosing m n)) label d
    → d.threads ≡ Some (showing a) ∷ [] → IsTheoryEqual (equations g) m n
no_then g m n d label step e = go (alone_goes (choosing m n) step refl)
  where
    go : Goes g (alone (choosing m n)) d label (choosing m n) → IsTheoryEqual (equations g) m n
    go (inl (t, set, inl (equal, quiet, on))) = equal
    go (inl (t, set, inr (differ, quiet, on))) = absurd (not_b (ap shown_by (sym e ∙ ap (λ (c : Config). c.threads) on ∙ set (Some (showing b)))))
    go (inr w) = absurd (let same : (alone (choosing m n)).threads ≡ Some (showing a) ∷ [] = sym (threads_stay w) ∙ e in cc)

pub no_else : (g : Sig) (m n : Tree) (d : Config) (label : List Fact) → ProcessStep g (alone (choosing m n)) label d
    → d.threads ≡ Some (showing b) ∷ [] → ¬ IsTheoryEqual (equations g) m n
no_else g m n d label step e = go (alone_goes (choosing m n) step refl)
  where
    go : Goes g (alone (choosing m n)) d label (choosing m n) → ¬ IsTheoryEqual (equations g) m n
    go (inl (t, set, inl (equal, quiet, on))) = absurd (not_b (ap shown_by (sym (ap (λ (c : Config). c.threads) on ∙ set (Some (showing a))) ∙ e)))
    go (inl (t, set, inr (differ, quiet, on))) = differ
    go (inr w) = absurd (let same : (alone (choosing m n)).threads ≡ Some (showing b) ∷ [] = sym (threads_stay w) ∙ e in cc)

-- one linear fact isn't there twice

none_left : {facts rest : Pile} {ks : List ℕ} {left : List Fact} → Takes facts ks left rest → ((j : ℕ) (f : Fact) → slice_get facts j ≡ Some (Some f) → ⊥) → (h : Fact) (fs : List Fact) → left ≡ h ∷ fs → ⊥
none_left Takes.nothing gone h fs e = cc
none_left (Takes.one {k = k} {f = f} got tail) gone h fs e = gone k f got

used_up : (facts : Pile) (k : ℕ) (f : Fact) → facts ≡ Some (left_fact a) ∷ [] → slice_get facts k ≡ Some (Some f) → (j : ℕ) (h : Fact) → slice_get (used facts k f) j ≡ Some (Some h) → ⊥
used_up facts k f e got j h left = at k (subst (λ fs. slice_get fs k ≡ Some (Some f)) e got) (subst (λ fs. slice_get (used fs k f) j ≡ Some (Some h)) e left)
  where
    empty : (j : ℕ) → slice_get (None ∷ []) j ≡ Some (Some h) → ⊥
    empty zero e = cc
    empty (suc j) e = cc

    at : (k : ℕ) → slice_get (Some (left_fact a) ∷ []) k ≡ Some (Some f) → slice_get (used (Some (left_fact a) ∷ []) k f) j ≡ Some (Some h) → ⊥
    at zero got left =
        let is : left_fact a ≡ f = cc in
        empty j (subst (λ (w : Fact). slice_get (used (Some (left_fact a) ∷ []) 0 w) j ≡ Some (Some h)) (sym is) left)
    at (suc k) got left = cc

no_two : {facts rest : Pile} {ks : List ℕ} {left : List Fact} → Takes facts ks left rest → facts ≡ Some (left_fact a) ∷ [] → (f h : Fact) (fs : List Fact) → left ≡ f ∷ h ∷ fs → ⊥
no_two Takes.nothing whole_pile f h fs e = cc
no_two (Takes.one {facts = facts} {k = k} {f = w} {fs = gs} got tail) whole_pile f h fs e =
    let later : gs ≡ h ∷ fs = cc in
    none_left tail (used_up facts k w whole_pile got) h fs later

two_left : (R : Fact → Fact → Type 0) (f h : Fact) (left : List Fact) → AllZip R (f ∷ h ∷ []) left → (x : Fact) × (y : Fact) × (left ≡ x ∷ y ∷ [])
two_left R f h [] e = absurd e
two_left R f h (x ∷ []) e = absurd e.1
two_left R f h (x ∷ y ∷ []) e = (x, y, refl)
two_left R f h (x ∷ y ∷ z ∷ zs) e = absurd e.1.1

abbrev taking : Config
taking = record (alone taking_twice) { facts = Some (left_fact a) ∷ [] }

pub no_second : (g : Sig) (d : Config) (label : List Fact) → ProcessStep g taking label d → d.threads ≡ Some taking_twice ∷ []
no_second g d label step = elim (alone_goes taking_twice step refl) [
  | inl r ↦ absurd (
      let two = two_left (IsEqualFact (equations g)) (left_fact a) (left_fact a) r.2.left r.2.equal in
      no_two r.2.takes refl two.0 two.1 [] two.2
      )
  | inr w ↦ threads_stay w
]

abbrev waiting_fresh : Config
waiting_fresh = alone (act (action.input (variable fresh_x)) (showing (variable fresh_x)))

pub no_public : (g : Sig) (d : Config) (label : List Fact) → ProcessStep g waiting_fresh label d → d.threads ≡ Some (showing a) ∷ [] → ⊥
no_public g d label step e = elim (alone_goes (act (action.input (variable fresh_x)) (showing (variable fresh_x))) step refl) [
  | inl r ↦ (
      let told : r.2.choice fresh_x ≡ a = ap shown_by (sym (ap (λ (c : Config). c.threads) r.2.on ∙ r.1 (Some (showing (r.2.choice fresh_x)))) ∙ e) in
      let p : false ≡ true = subst (λ t. IsTrue (fits_sort Fresh t)) told (r.2.fits.messages fresh_x).sorted in
      cc
      )
  | inr w ↦ (let same : waiting_fresh.threads ≡ Some (showing a) ∷ [] = sym (threads_stay w) ∙ e in cc)
]

pub no_private : (g : Sig) (d : Config) (label : List Fact) (n : ℕ) → ProcessStep g (alone adding_public) label d → d.threads ≡ Some (showing (fresh n)) ∷ [] → ⊥
no_private g d label n step e = elim (alone_goes adding_public step refl) [
  | inl r ↦ (
      let told : r.2.choice public_x ≡ fresh n = ap shown_by (sym (ap (λ (c : Config). c.threads) r.2.on ∙ r.1 (Some (showing (r.2.choice public_x)))) ∙ e) in
      let p : false ≡ true = subst (λ t. IsTrue (fits_sort Pub t)) told (r.2.messages public_x).sorted in
      cc
      )
  | inr w ↦ (let same : Some adding_public ∷ [] ≡ Some (showing (fresh n)) ∷ [] = sym (threads_stay w) ∙ e in cc)
]

abbrev waiting : Config
waiting = record (alone input_shown) { made = 4 ∷ [] }

-- a term with a name in it that was never sent can't be given
pub unsent : (g : Sig) (c : Config) (t : Tree) (k : ℕ) → c.own ≡ [] → c.frame ≡ [] → CanGive g c t → value t ≡ fresh k → ⊥
unsent g c t k own frame can is = subst (HasOnly (λ n. ⊥)) is (deduced_has (λ n. ⊥) g c.own c.frame
    (λ n m. none_has n (subst (λ ns. Contains ns n) own m)) (λ u m. absurd (member-none u (subst (λ us. Contains us u) frame m))) t can.deducible)

pub no_secret : (g : Sig) (d : Config) (label : List Fact) → ProcessStep g waiting label d → d.threads ≡ Some (showing (fresh 4)) ∷ [] → ⊥
no_secret g d label step e = elim (alone_goes input_shown step refl) [
  | inl r ↦ (
      let told : r.2.choice x ≡ fresh 4 = ap shown_by (sym (ap (λ (c : Config). c.threads) r.2.on ∙ r.1 (Some (showing (r.2.choice x)))) ∙ e) in
      unsent g waiting r.2.term 4 refl refl r.2.given (sym (value_equal r.2.fits.equal) ∙ ap value told)
      )
  | inr w ↦ (let same : waiting.threads ≡ Some (showing (fresh 4)) ∷ [] = sym (threads_stay w) ∙ e in cc)
]

-- two threads: one sends, and one receives

abbrev pub both : Tree → Tree → Tree → Sort → Config
both m n l s = running (Some (sending m n) ∷ Some (receiving l s) ∷ [])

-- what they have met on, and what went over
abbrev pub Exchanged : Sig → Tree → Tree → Tree → Sort → Tree → Type 0
Exchanged g m n l s v = IsTheoryEqual (equations g) m l × IsTheoryEqual (equations g) v n × IsMessage g s v

pub meeting : (g : Sig) (m n l v : Tree) (s : Sort) (d : Config) (label : List Fact) → ProcessStep g (both m n l s) label d
    → d.threads ≡ Some (showing b) ∷ Some (showing v) ∷ [] → Exchanged g m n l s v
meeting g m n l v s d label step e = by (origin step)
  where
    pair_of : List (Option Proc)
    pair_of = Some (sending m n) ∷ Some (receiving l s) ∷ []

    own : (t : ℕ) (p : Proc) → slice_get pair_of t ≡ Some (Some p) → After g (both m n l s) d label t p → ⊥
    own zero p r after =
        let is : p ≡ sending m n = cc in
        let there = subst (After g (both m n l s) d label 0) is after in
        let same : Some (showing b) ∷ Some (receiving l s) ∷ [] ≡ Some (showing b) ∷ Some (showing v) ∷ [] =
        sym (ap (λ (c : Config). c.threads) there.6) ∙ e in
        cc
    own (suc zero) p r after =
        let is : p ≡ receiving l s = cc in
        let there = subst (After g (both m n l s) d label 1) is after in
        let same : Some (sending m n) ∷ Some (showing (there.choice (x_of s))) ∷ [] ≡ Some (showing b) ∷ Some (showing v) ∷ [] =
        sym (ap (λ (c : Config). c.threads) there.on) ∙ e in
        cc
    own (suc (suc t)) p r after = cc

    met : (i j : ℕ) (channel sent other pattern : Tree) (after behind : Proc) (σ : Choice) → slice_get pair_of i ≡ Some (Some (act (action.send channel sent) after))
        → slice_get pair_of j ≡ Some (Some (act (action.receive other pattern) behind)) → IsTheoryEqual (equations g) channel other → Fits g σ pattern sent
        → slice_set (slice_set pair_of i (Some after)) j (Some (with_choice σ (tree_vars pattern) behind)) ≡ Some (showing b) ∷ Some (showing v) ∷ []
        → Exchanged g m n l s v
    met zero (suc zero) channel sent other pattern after behind σ r z equal fits on =
        let first : channel ≡ m = cc in
        let second : sent ≡ n = cc in
        let third : other ≡ l = cc in
        let fourth : pattern ≡ var_of s = cc in
        let last : behind ≡ showing (var_of s) = cc in
        let came : with_choice σ (tree_vars pattern) behind ≡ showing v = cc in
        let there : with_choice σ (tree_vars (var_of s)) (showing (var_of s)) ≡ showing v =
        subst (λ w. with_choice σ (tree_vars (var_of s)) w ≡ showing v) last (subst (λ w. with_choice σ (tree_vars w) behind ≡ showing v) fourth came) in
        let told : σ (x_of s) ≡ v = ap (λ p. shown_by (Some p ∷ [])) there in (
          subst (λ c. IsTheoryEqual (equations g) c l) first (subst (λ o. IsTheoryEqual (equations g) channel o) third equal),
          subst (λ w. IsTheoryEqual (equations g) w n) told
              (subst (λ w. IsTheoryEqual (equations g) (instance σ w) n) fourth (subst (λ u. IsTheoryEqual (equations g) (instance σ pattern) u) second fits.equal)),
          subst (λ w. IsMessage g s w) told (fits.messages (x_of s)),
        )
    met zero zero channel sent other pattern after behind σ r z equal fits on = cc
    met zero (suc (suc j)) channel sent other pattern after behind σ r z equal fits on = cc
    met (suc zero) j channel sent other pattern after behind σ r z equal fits on = cc
    met (suc (suc i)) j channel sent other pattern after behind σ r z equal fits on = cc

    by : Origin g (both m n l s) d label → Exchanged g m n l s v
    by (Origin.one t p r after) = absurd (own t p r after)
    by (Origin.two k) = met k.sender k.receiver k.channel k.sent k.other k.pattern k.after k.behind k.choice k.sends k.receives k.one_channel k.fits
        (sym (ap (λ (c : Config). c.threads) k.on) ∙ e)
    by (Origin.adversary w) = absurd (let same : pair_of ≡ Some (showing b) ∷ Some (showing v) ∷ [] = sym (threads_stay w) ∙ e in cc)

-- names of other numbers differ
apart : (g : Sig) → IsTheoryEqual (equations g) (fresh 4) (fresh 5) → ⊥
apart g h = let p : true ≡ false = ap (λ t. same_tree t (fresh 4)) (value_equal h) in cc

pub no_meeting : (g : Sig) (d : Config) (label : List Fact) → ProcessStep g (both (fresh 4) a (fresh 5) Msg) label d
    → d.threads ≡ Some (showing b) ∷ Some (showing a) ∷ [] → ⊥
no_meeting g d label step e = apart g (meeting g (fresh 4) a (fresh 5) a Msg d label step e).0
