-- Traces of small processes with embedded rules.
use Rattle.std.proofs.Common.{◌≡◌, ◌⊎◌, ℕ, zero, suc, List, [], ◌∷◌, Some, None, true, false, slice_get, refl, sym, ap, subst, ◌∙◌, inl, inr}
use Rattle.std.specs.Prelude.{Contains, codes}
use Rattle.std.specs.List.{AllZip}
use Rattle.sap_rewrite.specs.Laws.{FormIsOne}
use Rattle.sap_terms.specs.Equal.{same}
use Rattle.sap_terms.specs.Equations.{equations}
use Rattle.sap_terms.specs.Modulo.{IsEqualFact, IsFormOfFact}
use Rattle.sap_terms.specs.Piles.{Pile, Takes, used, adds, one, nothing}
use Rattle.sap_terms.specs.Same.{same_tree}
use Rattle.sap_terms.specs.Signature.{Sig}
use Rattle.sap_terms.specs.Trace.{Trace, shown}
use Rattle.sap_terms.specs.Tree.{public}
use Rattle.sap_terms.specs.declared.fact.Fact.{Fact}
use Rattle.sap_process.specs.Configuration.{Config, initial}
use Rattle.sap_process.specs.Proc.{Proc, nil}
use Rattle.sap_process.specs.ProcessSteps.{ProcessStep, ProcessRun, IsProcessTrace, embeds, starts, further}
use Rattle.sap_process.specs.StepExamples.{a, b, shown_fact, left_fact, lasting_fact, over_facts, using_left, used_twice, using_lasting, lasting_used_twice}
use Rattle.sap_process.proofs.Members.{member-none}
use Rattle.sap_process.proofs.NoSteps.{Goes}
use Rattle.sap_process.proofs.NoTraces.{first_arg, not_known, at_end}
use Rattle.sap_process.proofs.OneThread.{ByAdversary, alone_goes}
use Rattle.sap_process.proofs.StepLemmas.{names, names_messages, own_form, one_form}

-- no fact stands
abbrev Gone : Pile → Type 0
Gone facts = (j : ℕ) (f : Fact) → slice_get facts j ≡ Some (Some f) → ⊥

gone_none : Gone []
gone_none zero f e = cc
gone_none (suc j) f e = cc

gone_one : Gone (None ∷ [])
gone_one zero f e = cc
gone_one (suc j) f e = cc

-- the whole process, and no fact; both rules, and one linear fact; the second rule, and no fact
abbrev Shape : Config → Type 0
Shape c =
    ((c.threads ≡ Some used_twice ∷ []) × (c.facts ≡ []))
    ⊎ (((f : Fact) × (f.persistent ≡ false) × (c.facts ≡ Some f ∷ []) × (c.threads ≡ Some (using_left a (using_left b nil)) ∷ []))
    ⊎ (Gone c.facts × (c.threads ≡ Some (using_left b nil) ∷ [])))

-- what a step keeps, and that it doesn't show A('b')
abbrev Kept : Config → List Fact → Type 0
Kept d label = Shape d × (label ≡ shown_fact b ∷ [] → ⊥)

no_more : {facts rest : Pile} {ks : List ℕ} {left : List Fact} → Takes facts ks left rest → left ≡ [] → rest ≡ facts
no_more nothing e = refl
no_more (one got tail) e = absurd (cc)

none_zipped : (R : Fact → Fact → Type 0) (fs : List Fact) → AllZip R [] fs → fs ≡ []
none_zipped R [] e = refl
none_zipped R (f ∷ fs) e = absurd e

one_zipped : (R : Fact → Fact → Type 0) (f : Fact) (fs : List Fact) → AllZip R (f ∷ []) fs → (h : Fact) × (fs ≡ h ∷ []) × R f h
one_zipped R f [] e = absurd e
one_zipped R f (h ∷ []) e = (h, refl, e.0)
one_zipped R f (h ∷ k ∷ fs) e = absurd e.1

-- the one fact is taken
there_is : (f h : Fact) (k : ℕ) → slice_get (Some f ∷ []) k ≡ Some (Some h) → (k ≡ 0) × (f ≡ h)
there_is f h zero e = (refl, cc)
there_is f h (suc k) e = absurd (cc)

left_over : (f : Fact) → f.persistent ≡ false → used (Some f ∷ []) 0 f ≡ None ∷ []
left_over f e = rw e refl

took : {facts rest : Pile} {ks : List ℕ} {left : List Fact} (f h : Fact) → Takes facts ks left rest → facts ≡ Some f ∷ [] → f.persistent ≡ false → left ≡ h ∷ []
    → rest ≡ None ∷ []
took f h nothing e linear_one is = absurd (cc)
took f h (one {facts = facts} {rest = rest} {k = k} {f = w} {fs = fs} got tail) e linear_one is =
    let there = there_is f w k (subst (λ fs. slice_get fs k ≡ Some (Some w)) e got) in
    let last : fs ≡ [] = cc in
    no_more tail last ∙ ap (λ fs. used fs k w) e ∙ ap (λ k. used (Some f ∷ []) k w) there.0 ∙ ap (λ w. used (Some f ∷ []) 0 w) (sym there.1) ∙ left_over f linear_one

-- nothing is taken where nothing stands
took_none : {facts rest : Pile} {ks : List ℕ} {left : List Fact} (h : Fact) → Takes facts ks left rest → Gone facts → left ≡ h ∷ [] → ⊥
took_none h nothing gone is = cc
took_none h (one {k = k} {f = f} got tail) gone is = gone k f got

not_b : a ≡ b → ⊥
not_b e = let p : false ≡ true = ap (λ t. same_tree t b) e in cc

silent : {label : List Fact} → label ≡ [] → label ≡ shown_fact b ∷ [] → ⊥
silent e k = let no : [] ≡ shown_fact b ∷ [] = sym e ∙ k in cc

module _ (unique : FormIsOne) (g : Sig) where
  by_adversary : (c d : Config) (label : List Fact) → Shape c → ByAdversary g c d label → Kept d label
  by_adversary c d label s (inl (n, unused, quiet, on)) = (subst Shape (sym on) s, silent quiet)
  by_adversary c d label s (inr (t, can, told, on)) = (subst Shape (sym on) s, λ k. not_known b t (sym k ∙ told))

  by_whole : (c d : Config) (label : List Fact) → c.threads ≡ Some used_twice ∷ [] → c.facts ≡ [] → Goes g c d label used_twice → Kept d label
  by_whole c d label h empty (inl (t, set, r)) =
      let rest : r.rest ≡ [] = no_more r.takes (none_zipped (IsEqualFact (equations g)) r.left r.equal) ∙ empty in
      let came = one_zipped (IsFormOfFact (equations g)) (left_fact a) r.added r.right in (
        inr (inl (
          came.0,
          came.2.persistent,
          ap (λ (e : Config). e.facts) r.on ∙ ap (λ rest. adds rest r.added) rest ∙ ap (adds []) came.1,
          ap (λ (e : Config). e.threads) r.on ∙ set (Some (using_left a (using_left b nil))),
        )),
        silent (none_zipped (IsFormOfFact (equations g)) label r.acts),
      )
  by_whole c d label h empty (inr w) = by_adversary c d label (inl (h, empty)) w

  by_both : (c d : Config) (label : List Fact) (f : Fact) → f.persistent ≡ false → c.facts ≡ Some f ∷ []
      → c.threads ≡ Some (using_left a (using_left b nil)) ∷ [] → Goes g c d label (using_left a (using_left b nil)) → Kept d label
  by_both c d label f linear_one stands h (inl (t, set, r)) =
      let taken = one_zipped (IsEqualFact (equations g)) (left_fact a) r.left r.equal in
      let rest : r.rest ≡ None ∷ [] = took f taken.0 r.takes stands linear_one taken.1 in
      let none : r.added ≡ [] = none_zipped (IsFormOfFact (equations g)) r.added r.right in
      let after : d.facts ≡ None ∷ [] = ap (λ (e : Config). e.facts) r.on ∙ ap (λ rest. adds rest r.added) rest ∙ ap (adds (None ∷ [])) none in
      let told = one_zipped (IsFormOfFact (equations g)) (shown_fact a) label r.acts in
      let is : told.0 ≡ shown_fact a = one_form unique g (codes "A") a a told.0 (own_form (equations g) (codes "a")) told.2 in (
        inr (inr (subst Gone (sym after) gone_one, ap (λ (e : Config). e.threads) r.on ∙ set (Some (using_left b nil)))),
        λ k. not_b (ap first_arg (sym (told.1 ∙ ap (λ f. f ∷ []) is) ∙ k)),
      )
  by_both c d label f linear_one stands h (inr w) = by_adversary c d label (inr (inl (f, linear_one, stands, h))) w

  by_second : (c d : Config) (label : List Fact) → Gone c.facts → c.threads ≡ Some (using_left b nil) ∷ [] → Goes g c d label (using_left b nil) → Kept d label
  by_second c d label gone h (inl (t, set, r)) =
      absurd (let taken = one_zipped (IsEqualFact (equations g)) (left_fact a) r.left r.equal in took_none taken.0 r.takes gone taken.1)
  by_second c d label gone h (inr w) = by_adversary c d label (inr (inr (gone, h))) w

  goes_on : {c d : Config} {label : List Fact} → ProcessStep g c label d → Shape c → Kept d label
  goes_on {c} {d} {label} step s = by s
    where
      by : Shape c → Kept d label
      by (inl (h, empty)) = by_whole c d label h empty (alone_goes used_twice step h)
      by (inr (inl (f, linear_one, stands, h))) = by_both c d label f linear_one stands h (alone_goes (using_left a (using_left b nil)) step h)
      by (inr (inr (gone, h))) = by_second c d label gone h (alone_goes (using_left b nil) step h)

  run_lacks : (p : Proc) {c : Config} {tr : Trace} → ProcessRun g (initial p) c tr → Shape (initial p) → Shape c × (Contains tr (shown_fact b ∷ []) → ⊥)
  run_lacks p ProcessRun.starts s = (s, λ m. member-none (shown_fact b ∷ []) m)
  run_lacks p (ProcessRun.further {c = c} {d = d} {tr = tr} {label = label} run step) s =
      let before = run_lacks p run s in
      let on = goes_on step before.0 in
      (on.0, λ m. elim (at_end tr label (shown_fact b ∷ []) m) [ inl k ↦ before.1 k | inr k ↦ on.1 k.0 ])

  pub never_used : (tr : Trace) → IsProcessTrace g (using_left b nil) tr → Contains tr (shown_fact b ∷ []) → ⊥
  never_used tr is = (run_lacks (using_left b nil) is.1 (inr (inr (gone_none, refl)))).1

  pub used_once : (tr : Trace) → IsProcessTrace g used_twice tr → Contains tr (shown_fact b ∷ []) → ⊥
  used_once tr is = (run_lacks used_twice is.1 (inl (refl, refl))).1

-- a fact that is added, shown or taken is what is written
pub shown_once : (g : Sig) → IsProcessTrace g used_twice ((shown_fact a ∷ []) ∷ [])
shown_once g = (
  over_facts (None ∷ []) (using_left b nil),
  further {c = over_facts (Some (left_fact a) ∷ []) (using_left a (using_left b nil))}
      (further starts (embeds 0 [] names [] [] (left_fact a ∷ []) refl (names_messages g) tt nothing tt
      (record { name = refl; persistent = refl; args = (own_form (equations g) (codes "a"), tt) }, tt)))
      (embeds 0 (0 ∷ []) names (left_fact a ∷ []) (shown_fact a ∷ []) [] refl (names_messages g)
      (record { name = refl; persistent = refl; args = (same, tt) }, tt)
      (one refl nothing)
      (record { name = refl; persistent = refl; args = (own_form (equations g) (codes "a"), tt) }, tt) tt),
)

-- a rule that takes the persistent fact leaves it
lasting_on : (g : Sig) (n : List ℕ) → AllZip (IsFormOfFact (equations g)) (shown_fact (public n) ∷ []) (shown_fact (public n) ∷ [])
lasting_on g n = (record { name = refl; persistent = refl; args = (own_form (equations g) n, tt) }, tt)

lasting_taken : (g : Sig) → AllZip (IsEqualFact (equations g)) (lasting_fact a ∷ []) (lasting_fact a ∷ [])
lasting_taken g = (record { name = refl; persistent = refl; args = (same, tt) }, tt)

pub lasting_shown : (g : Sig) → IsProcessTrace g lasting_used_twice ((shown_fact a ∷ []) ∷ (shown_fact b ∷ []) ∷ [])
lasting_shown g = (
  over_facts (Some (lasting_fact a) ∷ []) nil,
  further {c = over_facts (Some (lasting_fact a) ∷ []) (using_lasting b nil)}
      (further {c = over_facts (Some (lasting_fact a) ∷ []) (using_lasting a (using_lasting b nil))}
      (further starts (embeds 0 [] names [] [] (lasting_fact a ∷ []) refl (names_messages g) tt nothing tt
      (record { name = refl; persistent = refl; args = (own_form (equations g) (codes "a"), tt) }, tt)))
      (embeds 0 (0 ∷ []) names (lasting_fact a ∷ []) (shown_fact a ∷ []) [] refl (names_messages g) (lasting_taken g) (one refl nothing) (lasting_on g (codes "a")) tt))
      (embeds 0 (0 ∷ []) names (lasting_fact a ∷ []) (shown_fact b ∷ []) [] refl (names_messages g) (lasting_taken g) (one refl nothing) (lasting_on g (codes "b")) tt),
)
