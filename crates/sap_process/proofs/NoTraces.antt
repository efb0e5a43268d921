-- Traces that small processes lack.
use Rattle.std.proofs.Common.{◌≡◌, ◌⊎◌, ℕ, zero, suc, List, [], ◌∷◌, ◌++◌, Option, Some, None, Bool, true, false, slice_get, slice_set, refl, sym, ap, subst, ◌∙◌, inl, inr}
use Rattle.std.specs.Prelude.{Contains, codes}
use Rattle.std.specs.Str.{bytes_eq}
use Rattle.std.proofs.lemmas.List.Elements.{Contains-append_cases, Contains-append_left, Contains-append_right, Contains-push_cases}
use Rattle.sap_rewrite.specs.Laws.{FormIsOne}
use Rattle.sap_terms.specs.AdversaryFacts.{k_fact}
use Rattle.sap_terms.specs.Equal.{same}
use Rattle.sap_terms.specs.Equations.{equations}
use Rattle.sap_terms.specs.Signature.{Sig}
use Rattle.sap_terms.specs.Trace.{Trace, shown}
use Rattle.sap_terms.specs.Tree.{Tree, public, fresh}
use Rattle.sap_terms.specs.declared.fact.Fact.{Fact}
use Rattle.sap_process.specs.Action.{send}
use Rattle.sap_process.specs.Configuration.{Config, initial, Runs, becomes}
use Rattle.sap_process.specs.Proc.{Proc, nil, act}
use Rattle.sap_process.specs.ProcessSteps.{ProcessStep, ProcessRun, IsProcessTrace}
use Rattle.sap_process.specs.StepExamples.{a, shown_fact, showing, new_shown}
use Rattle.sap_process.proofs.Members.{member-head, member-none}
use Rattle.sap_process.proofs.NoSteps.{Goes}
use Rattle.sap_process.proofs.OneThread.{Origin, origin, After, ByAdversary, alone_goes, only_one, set_one}
use Rattle.sap_process.proofs.OwnNames.{HasOnly, deduced_has, has_more}
use Rattle.sap_process.proofs.StepLemmas.{fresh_normal, value, one_form}

-- the first argument of the first fact, and whether that fact is an A
abbrev pub first_arg : List Fact → Tree
first_arg [] = a
first_arg (f ∷ fs) = first f.args
  where
    first : List Tree → Tree
    first [] = a
    first (t ∷ ts) = t

abbrev named_a : List Fact → Bool
named_a [] = false
named_a (f ∷ fs) = bytes_eq f.name (codes "A")

pub not_known : (t u : Tree) → shown_fact t ∷ [] ≡ k_fact u ∷ [] → ⊥
not_known t u e = let p : true ≡ false = ap named_a e in cc

-- nothing is left to run
abbrev Idle : List (Option Proc) → Type 0
Idle ts = (ts ≡ Some nil ∷ []) ⊎ (ts ≡ None ∷ [])

idle_ends : (c d : Config) (label : List Fact) (g : Sig) (t : ℕ) (p : Proc) → Idle c.threads → Runs c t p → After g c d label t p
    → (label ≡ []) × (d ≡ becomes c t None) × (slice_set c.threads t None ≡ None ∷ [])
idle_ends c d label g t p (inl h) r after =
    let there = subst (After g c d label t) (sym (only_one c t nil p h r)) after in
    (there.0, there.1, set_one c t nil p None h r)
idle_ends c d label g t p (inr h) r after = absurd (ended t (subst (λ ts. slice_get ts t ≡ Some (Some p)) h r))
  where
    ended : (t : ℕ) → slice_get (None ∷ []) t ≡ Some (Some p) → ⊥
    ended zero e = cc
    ended (suc t) e = cc

-- what a trace has at its end
pub at_end : (tr : Trace) (label fs : List Fact) → Contains (tr ++ shown label) fs → Contains tr fs ⊎ ((label ≡ fs) × (¬ (label ≡ [])))
at_end tr [] fs m = elim (Contains-append_cases tr [] fs m) [ inl k ↦ inl k | inr k ↦ absurd (member-none fs k) ]
at_end tr (f ∷ label) fs m = elim (Contains-push_cases tr (f ∷ label) fs m) [ inl k ↦ inl k | inr e ↦ inr (e, λ n. cc) ]

-- what `new x; event A(x)` comes to: the whole, the event, nothing
abbrev Shape : List (Option Proc) → List ℕ → Type 0
Shape ts made = (ts ≡ Some new_shown ∷ []) ⊎ (((n : ℕ) × Contains made n × (ts ≡ Some (showing (fresh n)) ∷ [])) ⊎ Idle ts)

-- what it shows: a name that it made, or what the adversary gives by its own names
abbrev Told : List ℕ → List ℕ → List Fact → Type 0
Told made own fs = ((n : ℕ) × Contains made n × (fs ≡ shown_fact (fresh n) ∷ [])) ⊎ ((t : Tree) × HasOnly (Contains own) (value t) × (fs ≡ k_fact t ∷ []))

told_more : (made own after later : List ℕ) (fs : List Fact) → ((k : ℕ) → Contains made k → Contains after k) → ((k : ℕ) → Contains own k → Contains later k)
    → Told made own fs → Told after later fs
told_more made own after later fs f h (inl (n, m, e)) = inl (n, f n m, e)
told_more made own after later fs f h (inr (t, only, e)) = inr (t, has_more (Contains own) (Contains later) h (value t) only, e)

record Fine (c : Config) : Type 0 where
  frame : c.frame ≡ []
  apart : (k : ℕ) → Contains c.made k → Contains c.own k → ⊥
  shape : Shape c.threads c.made

-- what a step keeps, and shows
record Further (c d : Config) (label : List Fact) : Type 0 where
  fine : Fine d
  made_stays : (k : ℕ) → Contains c.made k → Contains d.made k
  own_stays : (k : ℕ) → Contains c.own k → Contains d.own k
  tells : (label ≡ []) ⊎ Told d.made d.own label

module _ (one : FormIsOne) (g : Sig) where
  by_adversary : (c d : Config) (label : List Fact) → Fine c → ByAdversary g c d label → Further c d label
  by_adversary c d label f (inl (n, unused, quiet, on)) = subst (λ e. Further c e label) (sym on) (record {
    fine = record {
      frame = f.frame;
      apart = λ k m o. elim (Contains-push_cases c.own n k o) [ inl o ↦ f.apart k m o | inr e ↦ unused.0 (subst (Contains c.made) (sym e) m) ];
      shape = f.shape;
    };
    made_stays = λ k m. m;
    own_stays = λ k m. Contains-append_left c.own (n ∷ []) k m;
    tells = inl quiet;
  })
  by_adversary c d label f (inr (t, can, told, on)) = subst (λ e. Further c e label) (sym on) (record {
    fine = f;
    made_stays = λ k m. m;
    own_stays = λ k m. m;
    tells = inr (inr (
      t,
      deduced_has (Contains c.own) g c.own c.frame (λ k m. m) (λ u m. absurd (member-none u (subst (λ us. Contains us u) f.frame m))) t can.deducible,
      told,
    ));
  })

  by_new : (c d : Config) (label : List Fact) → Fine c → Goes g c d label new_shown → Further c d label
  by_new c d label f (inl (t, set, (n, unused, quiet, on))) = subst (λ e. Further c e label) (sym on) (record {
    fine = record {
      frame = f.frame;
      apart = λ k m o. elim (Contains-push_cases c.made n k m) [ inl m ↦ f.apart k m o | inr e ↦ unused.1 (subst (Contains c.own) (sym e) o) ];
      shape = inr (inl (n, Contains-append_right c.made (n ∷ []) n (member-head n []), set (Some (showing (fresh n)))));
    };
    made_stays = λ k m. Contains-append_left c.made (n ∷ []) k m;
    own_stays = λ k m. m;
    tells = inl quiet;
  })
  by_new c d label f (inr b) = by_adversary c d label f b

  by_event : (c d : Config) (label : List Fact) (n : ℕ) → Fine c → Contains c.made n → Goes g c d label (showing (fresh n)) → Further c d label
  by_event c d label n f m (inl (t, set, (h, form, shows, on))) = subst (λ e. Further c e label) (sym on) (record {
    fine = record {
      frame = f.frame;
      apart = f.apart;
      shape = inr (inr (inl (set (Some nil))));
    };
    made_stays = λ k m. m;
    own_stays = λ k m. m;
    tells = inr (inl (
      n,
      m,
      shows ∙ ap (λ i. i ∷ []) (one_form one g (codes "A") (fresh n) (fresh n) h (record { equal = same; normal = fresh_normal (equations g) n }) form),
    ));
  })
  by_event c d label n f m (inr b) = by_adversary c d label f b

  by_idle : (c d : Config) (label : List Fact) → Fine c → Idle c.threads → Origin g c d label → Further c d label
  by_idle c d label f h (Origin.one t p r after) =
      let end = idle_ends c d label g t p h r after in
      subst (λ e. Further c e label) (sym end.1) (record {
        fine = record {
          frame = f.frame;
          apart = f.apart;
          shape = inr (inr (inr end.2));
        };
        made_stays = λ k m. m;
        own_stays = λ k m. m;
        tells = inl end.0;
      })
  by_idle c d label f h (Origin.two m) = absurd (meets_not h)
    where
      ended : (t : ℕ) (p : Proc) → slice_get (None ∷ []) t ≡ Some (Some p) → ⊥
      ended zero p e = cc
      ended (suc t) p e = cc

      meets_not : Idle c.threads → ⊥
      meets_not (inl e) = let same : nil ≡ act (send m.channel m.sent) m.after = only_one c m.sender nil (act (send m.channel m.sent) m.after) e m.sends in cc
      meets_not (inr e) = ended m.sender (act (send m.channel m.sent) m.after)
          (subst (λ ts. slice_get ts m.sender ≡ Some (Some (act (send m.channel m.sent) m.after))) e m.sends)
  by_idle c d label f h (Origin.adversary b) = by_adversary c d label f b

  goes_on : {c d : Config} {label : List Fact} → ProcessStep g c label d → Fine c → Further c d label
  goes_on {c} {d} {label} step f = by f.shape
    where
      by : Shape c.threads c.made → Further c d label
      by (inl h) = by_new c d label f (alone_goes new_shown step h)
      by (inr (inl (n, m, h))) = by_event c d label n f m (alone_goes (showing (fresh n)) step h)
      by (inr (inr h)) = by_idle c d label f h (origin step)

  record Shown (c : Config) (tr : Trace) : Type 0 where
    fine : Fine c
    told : (fs : List Fact) → Contains tr fs → Told c.made c.own fs

  run_shows : (p : Proc) {c : Config} {tr : Trace} → ProcessRun g (initial p) c tr → Shape (Some p ∷ []) [] → Shown c tr
  run_shows p ProcessRun.starts h = record { fine = record { frame = refl; apart = λ k m o. member-none k m; shape = h }; told = λ fs m. absurd (member-none fs m) }
  run_shows p (ProcessRun.further {c = c} {d = d} {tr = tr} {label = label} run step) h =
      let before = run_shows p run h in
      let on = goes_on step before.fine in
      record {
        fine = on.fine;
        told = λ fs m. elim (at_end tr label fs m) [
          | inl k ↦ told_more c.made c.own d.made d.own fs on.made_stays on.own_stays (before.told fs k)
          | inr k ↦ elim on.tells [
            | inl e ↦ absurd (k.1 e)
            | inr t ↦ subst (Told d.made d.own) k.0 t
          ]
        ];
      }

  shown_was_made : (p : Proc) (c : Config) (tr : Trace) (t : Tree) → Shown c tr → Contains tr (shown_fact t ∷ []) → (n : ℕ) × Contains c.made n × (t ≡ fresh n)
  shown_was_made p c tr t s m = by (s.told (shown_fact t ∷ []) m)
    where
      by : Told c.made c.own (shown_fact t ∷ []) → (n : ℕ) × Contains c.made n × (t ≡ fresh n)
      by (inl (n, m, e)) = (n, m, ap first_arg e)
      by (inr (u, only, e)) = absurd (not_known t u e)

  pub no_event : IsProcessTrace g nil ((shown_fact (public (codes "a")) ∷ []) ∷ []) → ⊥
  no_event is =
      let s = run_shows nil is.1 (inr (inr (inl refl))) in
      let found = shown_was_made nil is.0 ((shown_fact (public (codes "a")) ∷ []) ∷ []) (public (codes "a")) s (member-head (shown_fact (public (codes "a")) ∷ []) []) in
      let e : public (codes "a") ≡ fresh found.0 = found.2 in
      cc

  pub no_leak : (tr : Trace) (t : Tree) → IsProcessTrace g new_shown tr → Contains tr (shown_fact t ∷ []) → Contains tr (k_fact t ∷ []) → ⊥
  no_leak tr t is shows known =
      let s = run_shows new_shown is.1 (inl refl) in
      let found = shown_was_made new_shown is.0 tr t s shows in
      by s found.0 found.1 found.2 (s.told (k_fact t ∷ []) known)
    where
      by : Shown is.0 tr → (n : ℕ) → Contains is.0.made n → t ≡ fresh n → Told is.0.made is.0.own (k_fact t ∷ []) → ⊥
      by s n made name (inl (m, there, e)) = not_known (fresh m) t (sym e)
      by s n made name (inr (u, only, e)) =
          let one : t ≡ u = ap first_arg e in
          s.fine.apart n made (subst (λ w. HasOnly (Contains is.0.own) (value w)) (sym one ∙ name) only)
