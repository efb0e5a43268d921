-- Threads that use their embedded rules on facts.
use Rattle.std.proofs.Common.{◌≡◌, ◌<◌, ℕ, zero, suc, Bool, true, false, List, [], ◌∷◌, ◌++◌, length, map, Option, Some, None, if◌then◌else◌, refl, sym, ap, subst, ◌∙◌, ◌⊎◌, inl, inr}
use Rattle.std.specs.Prelude.{All, Contains, slice_get, slice_set}
use Rattle.std.proofs.lemmas.List.{map-append}
use Rattle.std.proofs.lemmas.List.Elements.{All-nil, All-cons, All-contains, Contains-get_or}
use Rattle.sap_terms.specs.Choice.{Choice}
use Rattle.sap_terms.specs.Destructors.{HasDestructor}
use Rattle.sap_terms.specs.Equations.{equations}
use Rattle.sap_terms.specs.Message.{IsOver}
use Rattle.sap_terms.specs.Modulo.{instance_fact, instance_facts, AreFormsOfFacts}
use Rattle.sap_terms.specs.Piles.{Pile, Takes, nothing, one, used, adds}
use Rattle.sap_terms.specs.Signature.{Sig}
use Rattle.sap_terms.specs.Tree.{Tree}
use Rattle.sap_terms.specs.Variables.{facts_vars}
use Rattle.sap_terms.specs.declared.binding.Binding.{Binding}
use Rattle.sap_terms.specs.declared.fact.Fact.{Fact}
use Rattle.sap_terms.proofs.PlainLaws.Items.{contains_got}
use Rattle.sap_rewrite.specs.Match.{HaveOneSort}
use Rattle.sap_facts.specs.Cited.{left_of}
use Rattle.sap_facts.specs.Facts.{standing}
use Rattle.sap_process.specs.Action as action
use Rattle.sap_process.specs.Configuration.{Runs, leaves}
use Rattle.sap_process.specs.Heads.{facts_terms}
use Rattle.sap_process.specs.Instance.{process_instance}
use Rattle.sap_process.specs.Places.{place}
use Rattle.sap_process.specs.Proc.{act}
use Rattle.sap_process.specs.Sites.{bound_by}
use Rattle.sap_process.specs.Sorted.{with_sorts, by_binder}
use Rattle.sap_runs.specs.declared.process_step.PStep.TheVariants as line
use Rattle.sap_share.specs.Env.{given}
use Rattle.sap_share.specs.Shared.{Shared, Keeps}
use Rattle.sap_share.specs.declared.env.Bound.{Bound}
use Rattle.sap_sides.specs.Messages.{IsSmallMessageFact, HoldsSmallMessages}
use Rattle.sap_sides.specs.SharedFacts.{fact_seen, slots_seen, AreSlotsBelow}
use Rattle.sap_sides.specs.declared.shared_fact.SharedFact.{SharedFact}
use Rattle.sap_lines.specs.Faults.{AreRight, FitsFacts, EvaluateSmall, no_memory, fact_count, fact_missing, bad_binding, unfitting_facts, large_rule}
use Rattle.sap_lines.specs.Lines.{left_open, embeds}
use Rattle.sap_lines.specs.Places.{proc_at, procs_of}
use Rattle.sap_lines.specs.Sorts.{RulesHaveOneSort}
use Rattle.sap_lines.specs.declared.fault.PFault.{PFault}
use Rattle.sap_lines.specs.declared.fault.PFault.TheVariants as fault
use Rattle.sap_lines.specs.declared.form.Form.TheVariants.{Nil, Embedded}
use Rattle.sap_lines.specs.declared.place.Place.{Place}
use Rattle.sap_heads.specs.Used as rule
use Rattle.sap_heads.specs.Used.{IsUsed, IsUnused, facts_given, rule_given}
use Rattle.sap_calc.specs.Running.{configuration, IsDone, IsDenied}
use Rattle.sap_calc.specs.code.Cited.{AreCited, AreUncited}
use Rattle.sap_calc.specs.code.Parts.{Parts, AreTied, seen}
use Rattle.sap_calc.specs.code.Sound.{IsSoundFrom}
use Rattle.sap_calc.specs.code.Threads.{live}
use Rattle.sap_calc.specs.declared.thread.Thread.{Thread}
use Rattle.sap_calc.proofs.Evaluable.{over_at}
use Rattle.sap_calc.proofs.Further.{further_is, further_tied}
use Rattle.sap_calc.proofs.Moves.{slots_stay}
use Rattle.sap_calc.proofs.Lines.{thread_tied, children_below, runs_form, sound_form}
use Rattle.sap_calc.proofs.Sounds.{sound_head}

-- a fact that stands at a number is there
stands_at : (o : Option (Option Fact)) (f : Fact) → standing o ≡ Some f → o ≡ Some (Some f)
stands_at None f h = cc
stands_at (Some o) f h = ap Some h

-- what is left when facts are taken was there
set_kept : {X : Type 0} (xs : List (Option X)) (k j : ℕ) (x : X) → slice_get (slice_set xs k None) j ≡ Some (Some x) → slice_get xs j ≡ Some (Some x)
set_kept [] k j x e = e
set_kept (y ∷ ys) zero zero x e = cc
set_kept (y ∷ ys) zero (suc j) x e = e
set_kept (y ∷ ys) (suc k) zero x e = e
set_kept (y ∷ ys) (suc k) (suc j) x e = set_kept ys k j x e

used_kept : (facts : Pile) (k : ℕ) (f x : Fact) (j : ℕ) → slice_get (used facts k f) j ≡ Some (Some x) → slice_get facts j ≡ Some (Some x)
used_kept facts k f x j e = at f.persistent e where
  at : (b : Bool) → slice_get (if b then facts else slice_set facts k None) j ≡ Some (Some x) → slice_get facts j ≡ Some (Some x)
  at true e = e
  at false e = set_kept facts k j x e

left_kept : {facts rest : Pile} {ks : List ℕ} {fs : List Fact} → Takes facts ks fs rest → (j : ℕ) (x : Fact) → slice_get rest j ≡ Some (Some x) → slice_get facts j ≡ Some (Some x)
left_kept nothing j x e = e
left_kept {facts = facts} (one {k = k} {f = f} a t) j x e = used_kept facts k f x j (left_kept t j x e)

taken_fine : (g : Sig) {facts rest : Pile} {ks : List ℕ} {fs : List Fact} → HoldsSmallMessages g facts → Takes facts ks fs rest → All (IsSmallMessageFact g) fs
taken_fine g h nothing = All-nil (IsSmallMessageFact g)
taken_fine g {facts = facts} h (one {k = k} {f = f} {fs = fs} a t) = All-cons (IsSmallMessageFact g) f fs (h k f (ap standing a)) (taken_fine g (λ j x e. h j x (ap standing (used_kept facts k f x j (stands_at _ x e)))) t)

got_adds : (xs : Pile) (ys : List Fact) (k : ℕ) (x : Fact) → slice_get (adds xs ys) k ≡ Some (Some x) → (slice_get xs k ≡ Some (Some x)) ⊎ ((j : ℕ) × (slice_get ys j ≡ Some x))
got_adds [] [] k x e = cc
got_adds [] (y ∷ ys) zero x e = let is : y ≡ x = cc in inr (zero, ap Some is)
got_adds [] (y ∷ ys) (suc k) x e = elim (got_adds [] ys k x e) [ inl never ↦ cc | inr at ↦ inr (suc at.0, at.1) ]
got_adds (z ∷ zs) ys zero x e = inl e
got_adds (z ∷ zs) ys (suc k) x e = got_adds zs ys k x e

adds_fine : (g : Sig) (facts : Pile) (ks : List ℕ) (cited right : List Fact) → HoldsSmallMessages g facts → Takes facts ks cited (left_of facts ks) → All (IsSmallMessageFact g) right → HoldsSmallMessages g (adds (left_of facts ks) right)
adds_fine g facts ks cited right h taken fine k f here = elim (got_adds (left_of facts ks) right k f (stands_at _ f here)) [
  | inl old ↦ h k f (ap standing (left_kept taken k f old))
  | inr new ↦ All-contains (IsSmallMessageFact g) right f fine (contains_got right f new.0 new.1)
]

-- facts that are cited are cited of a larger table
pub cited_stay : (P : Parts) (u : Shared) → Keeps P.table u → AreTied P → (ks : List ℕ) (cited : List Fact) → AreCited (slots_seen P.table.trees P.facts) ks cited → AreCited (slots_seen u.trees P.facts) ks cited
cited_stay P u keeps tied ks cited h = subst (λ facts. AreCited facts ks cited) (sym (slots_stay P.table u keeps P.facts tied.slots).0) h

-- facts that are the same are cited alike
pub cited_same : (facts : Pile) (ts : List Tree) (ks : List ℕ) (xs ys : List SharedFact) → xs ≡ ys → AreCited facts ks (map (fact_seen ts) ys) → AreCited facts ks (map (fact_seen ts) xs)
cited_same facts ts ks xs ys same h = subst (λ (zs : List SharedFact). AreCited facts ks (map (fact_seen ts) zs)) (sym same) h

count_is : (σ : Choice) (fs : List Fact) → length (instance_facts σ fs) ≡ length fs
count_is σ [] = refl
count_is σ (f ∷ fs) = ap suc (count_is σ fs)

module _ (P : Parts) (t : ℕ) (th : Thread) (x : Place) (tied : AreTied P) (is : Some th ≡ live P.threads t) (at : slice_get P.places th.place ≡ Some x) (l e r : List Fact) (form : x.form ≡ Embedded l e r) where
  pub rule_sound : IsSoundFrom P.table.sig (thread_tied P t th tied is).above (act (action.embedded l e r) (proc_at (procs_of P.places) x.first))
  rule_sound = sound_form P t th x tied is at (Embedded l e r) form

  pub rule_runs : Runs (configuration (seen P)) t (act (action.embedded (instance_facts (given P.table.trees th.env) l) (instance_facts (given P.table.trees th.env) e) (instance_facts (given P.table.trees th.env) r)) (process_instance (given P.table.trees th.env) (proc_at (procs_of P.places) x.first)))
  rule_runs = runs_form P t th x tied is at (Embedded l e r) form

  rule_below : (x.first < length P.places) × (x.second < length P.places)
  rule_below = children_below P t th x tied is at (λ leaf. let e : Embedded l e r ≡ Nil = sym form ∙ leaf in cc)

  pub rule_one : RulesHaveOneSort → HaveOneSort (facts_vars (l ++ (e ++ r)))
  rule_one sorts =
      let scope = (thread_tied P t th tied is).above.scope in
      let more = scope ++ bound_by scope (action.embedded l e r) in
      let q = proc_at (procs_of P.places) x.first in
      let σ : Choice = by_binder more in
      let kept : act (action.embedded (instance_facts σ l) (instance_facts σ e) (instance_facts σ r)) (with_sorts more q) ≡ act (action.embedded l e r) q = rule_sound.sorted in
      let ls : instance_facts σ l ≡ l = cc in
      let mids : instance_facts σ e ≡ e = cc in
      let rs : instance_facts σ r ≡ r = cc in
      sorts scope l e r (map-append (instance_fact σ) l (e ++ r) ∙ ap (λ fs. instance_facts σ l ++ fs) (map-append (instance_fact σ) e r) ∙ (λ i. ls i ++ (mids i ++ rs i)))

  pub rule_over : All (IsOver P.table.sig) (facts_terms (l ++ (e ++ r)))
  rule_over = λ k d lt.
      let here = sound_head P.table.sig _ _ rule_sound in
      over_at P.table.sig (place rule_sound.path (thread_tied P t th tied is).above (act (action.embedded l e r) (proc_at (procs_of P.places) x.first))) _ here.over (Contains-get_or (facts_terms (l ++ (e ++ r))) k d lt)

  pub rule_clean : (m : Tree) → Contains (facts_terms l) m → HasDestructor P.table.sig m → ⊥
  rule_clean m stands d = (sound_head P.table.sig _ _ rule_sound).plain (record { term = m; stands = stands; destructor = d })

  module _ (ks : List ℕ) (b : List Binding) where
    pub embed_count : (length ks ≡ length l → ⊥) → IsDenied (seen P) (line.Embedded t ks b) fault.FactCount
    embed_count other = fact_count t ks b rule_runs (λ same. other (same ∙ count_is (given P.table.trees th.env) l))

    pub embed_uncited : length ks ≡ length l → (f : PFault) → AreUncited (slots_seen P.table.trees P.facts) ks f → IsDenied (seen P) (line.Embedded t ks b) f
    embed_uncited count f (inl none) = rw none (no_memory (line.Embedded t ks b))
    embed_uncited count f (inr missing) = rw missing.1 (fact_missing t ks b missing.0 rule_runs (count ∙ sym (count_is (given P.table.trees th.env) l)) missing.2)

    module _ (cited : List Fact) (here : AreCited (slots_seen P.table.trees P.facts) ks cited) where
      takes : Takes (slots_seen P.table.trees P.facts) ks cited (left_of (slots_seen P.table.trees P.facts) ks)
      takes = subst (λ fs. Takes (slots_seen P.table.trees P.facts) ks fs (left_of (slots_seen P.table.trees P.facts) ks)) (sym here.are) here.taken

      pub cited_fine : All (IsSmallMessageFact P.table.sig) cited
      cited_fine = taken_fine P.table.sig tied.facts takes

      pub embed_unused : length ks ≡ length l → (f : PFault) → IsUnused P.table th.env cited l e r b f → IsDenied (seen P) (line.Embedded t ks b) f
      embed_unused count f rule.no_memory = no_memory (line.Embedded t ks b)
      embed_unused count f (rule.not_opened bad) = bad_binding t ks b rule_runs (count ∙ sym (count_is (given P.table.trees th.env) l)) takes (rw tied.numbered.sig at bad)
      embed_unused count f (rule.not_fitting opened none_fits) = unfitting_facts t ks b rule_runs (count ∙ sym (count_is (given P.table.trees th.env) l)) takes (rw tied.numbered.sig at opened) (rw tied.numbered.sig at none_fits)
      embed_unused count f (rule.too_large σ opened fits large) = large_rule t ks b σ rule_runs takes (rw tied.numbered.sig at opened) (rw tied.numbered.sig at fits) (rw tied.numbered.sig at large)

      module _ (env : List Bound) (shown added : List Fact) (h : IsUsed P.table th.env cited l e r b env shown added) (slots : List (Option SharedFact)) (below : AreSlotsBelow (length P.table.trees) slots)
          (left : slots_seen P.table.trees slots ≡ adds (left_of (slots_seen P.table.trees P.facts) ks) added) where
        pub embed_tied : AreTied (record P { threads = slice_set P.threads t (Some (record { place = x.first; env = env })); facts = slots })
        embed_tied =
            let set = further_tied P t th tied is h.choice (facts_vars (l ++ (e ++ r))) (facts_vars (rule_given P.table th.env l e r)) x.first env h.bound (action.embedded l e r) (λ scope. refl) rule_below.0 rule_sound in
            record {
              numbered = set.numbered;
              places = set.places;
              threads = set.threads;
              keys = set.keys;
              values = set.values;
              held = set.held;
              own = set.own;
              slots = below;
              facts = subst (HoldsSmallMessages P.table.sig) (sym left) (adds_fine P.table.sig (slots_seen P.table.trees P.facts) ks cited added tied.facts takes h.messages);
            }

        pub embed_line : IsDone (seen P) (seen (record P { threads = slice_set P.threads t (Some (record { place = x.first; env = env })); facts = slots })) (line.Embedded t ks b) shown
        embed_line =
            let fits : FitsFacts P.known.sig (facts_given P.table th.env l) b cited h.choice = rw tied.numbered.sig at h.fits in
            let right : AreRight P.known.sig (left_open (facts_given P.table th.env l) (facts_given P.table th.env e) (facts_given P.table th.env r)) b = rw tied.numbered.sig at h.opened in
            let acts : AreFormsOfFacts (equations P.known.sig) (instance_facts h.choice (facts_given P.table th.env e)) shown = rw tied.numbered.sig at h.acts in
            let right_forms : AreFormsOfFacts (equations P.known.sig) (instance_facts h.choice (facts_given P.table th.env r)) added = rw tied.numbered.sig at h.right in
            let whole : EvaluateSmall P.known.sig (facts_terms (instance_facts h.choice (rule_given P.table th.env l e r))) = rw tied.numbered.sig at h.small in
            let after = (λ i. record (configuration (seen (record P { threads = slice_set P.threads t (Some (record { place = x.first; env = env })) }))) { facts = left i }) ∙ ap (λ c. leaves c (adds (left_of (slots_seen P.table.trees P.facts) ks) added)) (further_is P t th tied is h.choice (facts_vars (l ++ (e ++ r))) (facts_vars (rule_given P.table th.env l e r)) x.first env h.bound) in
            record { inner = []; line = rw after (embeds t ks b h.choice cited shown added rule_runs fits.messages right.vars fits.agrees fits.equal takes acts right_forms whole); sig = refl }
