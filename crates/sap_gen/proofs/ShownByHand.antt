-- What both theories of small files show: what their processes do.
use Rattle.std.proofs.Common.{◌≡◌, ◌⊎◌, ◌↔◌, ℕ, zero, suc, Bool, true, false, List, [], ◌∷◌, ◌++◌, Option, Some, None, slice_get, slice_set, refl, sym, ap, subst, ◌∙◌, inl, inr, arith}
use Rattle.std.specs.Prelude.{Contains, codes}
use Rattle.std.specs.Str.{bytes_eq}
use Rattle.std.proofs.lemmas.List.Elements.{Contains-append_cases, Contains-append_right, Contains-push_cases}
use Rattle.sap_gen.specs.Kept.{KeepsFile, file_theory}
use Rattle.sap_process.specs.Action.{new, out, send, input, receive, event, insert, delete, lock, unlock, embedded}
use Rattle.sap_process.specs.Configuration.{Config, CanGive, IsUnused, initial, Runs, becomes, makes, sends_out}
use Rattle.sap_process.specs.Proc.{Proc, nil, parallel, replicated, act, test, lookup}
use Rattle.sap_process.specs.ProcessSteps.{ProcessStep, ProcessRun, IsProcessTrace}
use Rattle.sap_read.specs.Files.{FileContent}
use Rattle.sap_rule.specs.declared.theory.Theory.{Theory}
use Rattle.sap_terms.specs.AdversaryFacts.{k_fact, linear}
use Rattle.sap_terms.specs.Deduce.{a_public, given}
use Rattle.sap_terms.specs.Equal.{same}
use Rattle.sap_terms.specs.Equations.{equations}
use Rattle.sap_terms.specs.Laws.{LeavesAreNormal}
use Rattle.sap_terms.specs.Modulo.{IsFormOfFact}
use Rattle.sap_terms.specs.Normal.{IsNormalForm}
use Rattle.sap_terms.specs.Signature.{Sig}
use Rattle.sap_terms.specs.Trace.{Trace, shown}
use Rattle.sap_terms.specs.Tree.{Tree, variable, public, fresh}
use Rattle.sap_terms.specs.declared.fact.Fact.{Fact}
use Rattle.sap_terms.proofs.PlainLaws.Items.{first_item}
use Rattle.sap_translate.specs.Examples.{c, g_fact, plain_fact, term_m}
use Rattle.sap_gen.specs.ShortExamples.{two_events}
use Rattle.sap_gen.specs.TraceExamples.{BothShow, NeitherShows, drawn_event, event_alone, told_event}

-- traces of the process are what both theories show

pub both_show : (f : FileContent) (t : Theory) (p : Proc) (tr : Trace) → KeepsFile f (file_theory f) → KeepsFile f t → f.process ≡ p
    → ((g : Sig) → IsProcessTrace g p tr) → BothShow f t tr
both_show f t p tr long short e has =
    let own : IsProcessTrace f.signature f.process tr = subst (λ q. IsProcessTrace f.signature q tr) (sym e) (has f.signature) in
    ((long.shows tr).0 own, (short.shows tr).0 own)

pub neither_shows : (f : FileContent) (t : Theory) (p : Proc) (tr : Trace) → KeepsFile f (file_theory f) → KeepsFile f t → f.process ≡ p
    → ((g : Sig) → IsProcessTrace g p tr → ⊥) → NeitherShows f t tr
neither_shows f t p tr long short e lacks =
    let lacking : IsProcessTrace f.signature f.process tr → ⊥ = λ own. lacks f.signature (subst (λ q. IsProcessTrace f.signature q tr) e own) in
    (λ v. lacking ((long.shows tr).1 v), λ v. lacking ((short.shows tr).1 v))

-- what is put out can be given, and a public name always

no_item : {X : Type 0} (x : X) → Contains [] x → ⊥
no_item x m = absurd (omega (arith, m.1))

public_form : LeavesAreNormal → (g : Sig) (n : List ℕ) → IsNormalForm (equations g) (public n) (public n)
public_form leaves g n = record { equal = same; normal = leaves.of_public_name (equations g) n }

fresh_form : LeavesAreNormal → (g : Sig) (n : ℕ) → IsNormalForm (equations g) (fresh n) (fresh n)
fresh_form leaves g n = record { equal = same; normal = leaves.of_fresh_name (equations g) n }

gives_public : LeavesAreNormal → (g : Sig) (k : Config) (n : List ℕ) → CanGive g k (public n)
gives_public leaves g k n = record {
  deducible = record { form = public n; is_form = public_form leaves g n; earlier = []; derivation = (a_public n refl, tt) };
  normal = leaves.of_public_name (equations g) n;
}

gives_sent : LeavesAreNormal → (g : Sig) (k : Config) (n : ℕ) → Contains k.frame (fresh n) → CanGive g k (fresh n)
gives_sent leaves g k n m = record {
  deducible = record { form = fresh n; is_form = fresh_form leaves g n; earlier = []; derivation = (given m, tt) };
  normal = leaves.of_fresh_name (equations g) n;
}

-- a fact without arguments is shown as it stands
as_it_stands : (g : Sig) (n : List ℕ) → IsFormOfFact (equations g) (linear n []) (linear n [])
as_it_stands g n = record { name = refl; persistent = refl; args = tt }

-- event A()

abbrev alone_done : Config
alone_done = becomes (initial event_alone) 0 (Some nil)

pub alone_shown : (g : Sig) → IsProcessTrace g event_alone ((plain_fact ∷ []) ∷ [])
alone_shown g = (alone_done, ProcessRun.further {c = initial event_alone} ProcessRun.starts (ProcessStep.shows 0 refl (as_it_stands g (codes "A"))))

-- out('m'); event A()

abbrev told_out : Config
told_out = sends_out (becomes (initial told_event) 0 (Some event_alone)) term_m

abbrev told_done : Config
told_done = becomes told_out 0 (Some nil)

told_run : LeavesAreNormal → (g : Sig) → ProcessRun g (initial told_event) told_out []
told_run leaves g = ProcessRun.further {c = initial told_event} ProcessRun.starts (ProcessStep.outputs 0 refl (public_form leaves g (codes "m")))

pub told_before : LeavesAreNormal → (g : Sig) → IsProcessTrace g told_event ((k_fact term_m ∷ []) ∷ (plain_fact ∷ []) ∷ [])
told_before leaves g = (
  told_done,
  ProcessRun.further {c = told_out} (ProcessRun.further {c = told_out} (told_run leaves g) (ProcessStep.knows term_m (gives_public leaves g told_out (codes "m"))))
      (ProcessStep.shows 0 refl (as_it_stands g (codes "A"))),
)

pub told_behind : LeavesAreNormal → (g : Sig) → IsProcessTrace g told_event ((plain_fact ∷ []) ∷ (k_fact term_m ∷ []) ∷ [])
told_behind leaves g = (
  told_done,
  ProcessRun.further {c = told_done} (ProcessRun.further {c = told_out} (told_run leaves g) (ProcessStep.shows 0 refl (as_it_stands g (codes "A"))))
      (ProcessStep.knows term_m (gives_public leaves g told_done (codes "m"))),
)

-- new ~c; out(~c); event A()

abbrev sending : Proc
sending = act (out (fresh 0)) event_alone

abbrev drawn : Config
drawn = makes (becomes (initial drawn_event) 0 (Some sending)) 0

abbrev drawn_out : Config
drawn_out = sends_out (becomes drawn 0 (Some event_alone)) (fresh 0)

abbrev drawn_done : Config
drawn_done = becomes drawn_out 0 (Some nil)

drawn_run : LeavesAreNormal → (g : Sig) → ProcessRun g (initial drawn_event) drawn_out []
drawn_run leaves g =
    ProcessRun.further {c = drawn} (ProcessRun.further {c = initial drawn_event} ProcessRun.starts (ProcessStep.makes_name 0 0 refl (no_item 0, no_item 0)))
    (ProcessStep.outputs 0 refl (fresh_form leaves g 0))

pub drawn_before : LeavesAreNormal → (g : Sig) → IsProcessTrace g drawn_event ((k_fact (fresh 0) ∷ []) ∷ (plain_fact ∷ []) ∷ [])
drawn_before leaves g = (
  drawn_done,
  ProcessRun.further {c = drawn_out} (ProcessRun.further {c = drawn_out} (drawn_run leaves g) (ProcessStep.knows (fresh 0) (gives_sent leaves g drawn_out 0 (first_item (fresh 0) []))))
      (ProcessStep.shows 0 refl (as_it_stands g (codes "A"))),
)

pub drawn_behind : LeavesAreNormal → (g : Sig) → IsProcessTrace g drawn_event ((plain_fact ∷ []) ∷ (k_fact (fresh 0) ∷ []) ∷ [])
drawn_behind leaves g = (
  drawn_done,
  ProcessRun.further {c = drawn_done} (ProcessRun.further {c = drawn_out} (drawn_run leaves g) (ProcessStep.shows 0 refl (as_it_stands g (codes "A"))))
      (ProcessStep.knows (fresh 0) (gives_sent leaves g drawn_done 0 (first_item (fresh 0) []))),
)

-- event A(); event G()

abbrev second_left : Proc
second_left = act (event g_fact) nil

abbrev one_shown : Config
one_shown = becomes (initial two_events) 0 (Some second_left)

abbrev both_shown : Config
both_shown = becomes one_shown 0 (Some nil)

pub in_turn : (g : Sig) → IsProcessTrace g two_events ((plain_fact ∷ []) ∷ (g_fact ∷ []) ∷ [])
in_turn g = (
  both_shown,
  ProcessRun.further {c = one_shown} (ProcessRun.further {c = initial two_events} ProcessRun.starts (ProcessStep.shows 0 refl (as_it_stands g (codes "A"))))
      (ProcessStep.shows 0 refl (as_it_stands g (codes "G"))),
)

-- and never at one time: where one thread runs, of events alone, each time shows one fact

abbrev AreEvents : Proc → Type 0
AreEvents nil = Unit {0}
AreEvents (act (event f) p) = AreEvents p
AreEvents p = ⊥

abbrev Shape : List (Option Proc) → Type 0
Shape ts = ((p : Proc) × AreEvents p × (ts ≡ Some p ∷ [])) ⊎ (ts ≡ None ∷ [])

abbrev AreOne : List Fact → Type 0
AreOne fs = (f h : Fact) → Contains fs f → Contains fs h → f ≡ h

none_are : AreOne []
none_are f h m n = absurd (no_item f m)

only_item : (f h : Fact) → Contains (f ∷ []) h → f ≡ h
only_item f h m = at (Contains-push_cases [] f h m) where
  at : Contains [] h ⊎ (f ≡ h) → f ≡ h
  at (inl n) = absurd (no_item h n)
  at (inr e) = e

one_is : (i : Fact) → AreOne (i ∷ [])
one_is i f h m n = sym (only_item i f m) ∙ only_item i h n

-- what runs is of events, and it is the one thread
at_one : (o : Option Proc) (t : ℕ) (q : Proc) → slice_get (o ∷ []) t ≡ Some (Some q) → (o ≡ Some q) × ((n : Option Proc) → slice_set (o ∷ []) t n ≡ n ∷ [])
at_one o zero q e = (cc, λ n. refl)
at_one o (suc t) q e = absurd (cc)

running : (ts : List (Option Proc)) (t : ℕ) (q : Proc) → Shape ts → slice_get ts t ≡ Some (Some q) → AreEvents q × ((n : Option Proc) → slice_set ts t n ≡ n ∷ [])
running ts t q (inl (p, ev, h)) e =
    let there = at_one (Some p) t q (subst (λ us. slice_get us t ≡ Some (Some q)) h e) in
    let is : p ≡ q = cc in
    (subst AreEvents is ev, λ n. ap (λ us. slice_set us t n) h ∙ there.1 n)
running ts t q (inr h) e = absurd (let there = at_one None t q (subst (λ us. slice_get us t ≡ Some (Some q)) h e) in let no : None ≡ Some q = there.0 in cc)

-- a step keeps it so, and shows one fact at most
kept : {g : Sig} {k d : Config} {label : List Fact} → Shape k.threads → ProcessStep g k label d → Shape d.threads × AreOne label
kept {k = k} s (ProcessStep.ends t r) = (inr ((running k.threads t nil s r).1 None), none_are)
kept {k = k} s (ProcessStep.shows {f = f} {h = h} {p = p} t r form) =
    let there = running k.threads t (act (event f) p) s r in
    (inl (p, there.0, there.1 (Some p)), one_is h)
kept s (ProcessStep.adversary_makes n unused) = (s, none_are)
kept s (ProcessStep.knows x can) = (s, one_is (k_fact x))
kept {k = k} s (ProcessStep.splits {p = p} {q = q} t r) = absurd (running k.threads t (parallel p q) s r).0
kept {k = k} s (ProcessStep.copies {p = p} t r) = absurd (running k.threads t (replicated p) s r).0
kept {k = k} s (ProcessStep.makes_name {x = x} {p = p} t n r u) = absurd (running k.threads t (act (new x) p) s r).0
kept {k = k} s (ProcessStep.outputs {m = m} {p = p} t r form) = absurd (running k.threads t (act (out m) p) s r).0
kept {k = k} s (ProcessStep.outputs_on {m = m} {n = n} {p = p} t r form can sent) = absurd (running k.threads t (act (send m n) p) s r).0
kept {k = k} s (ProcessStep.inputs {n = n} {p = p} t σ r can fits) = absurd (running k.threads t (act (input n) p) s r).0
kept {k = k} s (ProcessStep.inputs_on {m = m} {n = n} {p = p} t σ r can messages equal) = absurd (running k.threads t (act (receive m n) p) s r).0
kept {k = k} s (ProcessStep.meets {m = m} {n = n} {p = p} a t σ r z equal fits) = absurd (running k.threads a (act (send m n) p) s r).0
kept {k = k} s (ProcessStep.agrees {m = m} {n = n} {p = p} {q = q} t r equal) = absurd (running k.threads t (test m n p q) s r).0
kept {k = k} s (ProcessStep.differs {m = m} {n = n} {p = p} {q = q} t r differ) = absurd (running k.threads t (test m n p q) s r).0
kept {k = k} s (ProcessStep.inserts {m = m} {n = n} {p = p} t r key form) = absurd (running k.threads t (act (insert m n) p) s r).0
kept {k = k} s (ProcessStep.deletes {m = m} {p = p} t r key) = absurd (running k.threads t (act (delete m) p) s r).0
kept {k = k} s (ProcessStep.finds {m = m} {x = x} {p = p} {q = q} t r key has) = absurd (running k.threads t (lookup m x p q) s r).0
kept {k = k} s (ProcessStep.misses {m = m} {x = x} {p = p} {q = q} t r key has) = absurd (running k.threads t (lookup m x p q) s r).0
kept {k = k} s (ProcessStep.locks {m = m} {i = i} {p = p} t r form free) = absurd (running k.threads t (act (lock m i) p) s r).0
kept {k = k} s (ProcessStep.unlocks {m = m} {i = i} {p = p} t r form) = absurd (running k.threads t (act (unlock m i) p) s r).0
kept {k = k} s (ProcessStep.embeds {l = l} {e = e} {r = w} {p = p} t ks σ left acts right r messages equal takes shown adds) = absurd (running k.threads t (act (embedded l e w) p) s r).0

-- so each time of a run shows one fact
at_end : (tr : Trace) (label fs : List Fact) → ((hs : List Fact) → Contains tr hs → AreOne hs) → AreOne label → Contains (tr ++ shown label) fs → AreOne fs
at_end tr [] fs before now m = at (Contains-append_cases tr [] fs m) where
  at : Contains tr fs ⊎ Contains [] fs → AreOne fs
  at (inl n) = before fs n
  at (inr n) = absurd (no_item fs n)
at_end tr (f ∷ label) fs before now m = at (Contains-push_cases tr (f ∷ label) fs m) where
  at : Contains tr fs ⊎ ((f ∷ label) ≡ fs) → AreOne fs
  at (inl n) = before fs n
  at (inr e) = subst AreOne e now

times : {g : Sig} {k : Config} {tr : Trace} → ProcessRun g (initial two_events) k tr → Shape k.threads × ((fs : List Fact) → Contains tr fs → AreOne fs)
times ProcessRun.starts = (inl (two_events, tt, refl), λ fs m. absurd (no_item fs m))
times (ProcessRun.further {tr = tr} {label = label} r s) =
    let before = times r in
    let now = kept before.0 s in
    (now.0, λ fs m. at_end tr label fs before.1 now.1 m)

apart : plain_fact ≡ g_fact → ⊥
apart e = let p : true ≡ false = ap (λ (f : Fact). bytes_eq f.name (codes "A")) e in cc

pub never_both : (tr : Trace) (fs : List Fact) → Contains tr fs → Contains fs plain_fact → Contains fs g_fact → (g : Sig) → IsProcessTrace g two_events tr → ⊥
never_both tr fs m a b g own = apart ((times own.1).1 fs m plain_fact g_fact a b)
