-- The parts of the relation are kept by steps that say little of them.
use Rattle.sap_restrict.specs.ReservedFacts.{init_fact}
use Rattle.sap_translate.specs.Members.{Member}
use Rattle.sap_translate.specs.relation.Shown.{MeetsSix}
use Rattle.sap_formula.specs.Hide.{hide, visible}
use Rattle.sap_translate.proofs.Traces.Demands.{NoDemand, no_demand_none, no_demand_one, demands_quiet}
use Rattle.sap_translate.proofs.Terms.Derive.{derivation_grows, deducible_grows_to}
use Rattle.sap_translate.proofs.Shared.Inputs.{free_quiet}
use Rattle.sap_translate.proofs.Traces.Store.{NoWrite, no_write_none, no_write_one, store_quiet}
use Rattle.sap_translate.proofs.Shared.Facts.{same_name_true}
use Rattle.sap_translate.proofs.Shared.Takings.{spent, takes_total, takes_every, every-adds}
use Rattle.sap_translate.proofs.Shared.Totals.{total-append}
use Rattle.sap_translate.proofs.Traces.Visible.{hide_push}
use Rattle.sap_translate.specs.relation.Envs.{Env, names, chosen}
use Rattle.sap_translate.specs.Scoped.{IsFree}
use Rattle.sap_templates.specs.ChannelFacts.{fresh_fact}
use Rattle.sap_translate.specs.relation.Totals.{total}
use Rattle.sap_translate.specs.relation.Locks.{Holder}
use Rattle.sap_translate.specs.relation.Counts.{count_holder, count_tag, count_fact, count_name}
use Rattle.sap_translate.specs.relation.Agents.{Agent}
use Rattle.sap_translate.specs.relation.Related.{NamesPart, KnowledgePart, TracePart, pending_place, StorePart}
use Rattle.sap_templates.specs.Places.{scoped_place_at, child, ScopedPlace}
use Rattle.sap_process.specs.Configuration.{Config, CanGive}
use Rattle.sap_process.specs.Instance.{without}
use Rattle.sap_process.specs.Proc.{Proc}
use Rattle.sap_process.specs.ProcessSteps.{ProcessStep, ProcessRun}
use Rattle.sap_rule.specs.RuleSteps.{RuleState}
use Rattle.sap_terms.specs.AdversaryFacts.{k_fact, out_fact}
use Rattle.sap_terms.specs.Piles.{Takes, adds}
use Rattle.sap_terms.specs.Signature.{Sig}
use Rattle.sap_terms.specs.Equations.{equations}
use Rattle.sap_terms.specs.Trace.{Trace, shown}
use Rattle.sap_process.specs.Sites.{var_names}
use Rattle.sap_terms.specs.Variables.{is_known}
use Rattle.sap_terms.specs.Tree.{Tree, variable, fresh}
use Rattle.sap_terms.specs.declared.fact.Fact.{Fact}
use Rattle.sap_terms.specs.declared.var.Var.{Var}
use Rattle.std.specs.Str.{bytes_eq}
use Rattle.std.proofs.Common.{◌≡◌, reverse, ℕ, ◌+◌, ◌≤◌, inl, inr, List, [], ◌∷◌, ◌++◌, Option, Some, None, refl, sym, ap, ◌∙◌, arith, Bool, true, false, cond, append-nil, map, subst}
use Rattle.std.proofs.Math.Path.{fun_ext}

-- what can be derived grows
pub record Grows (c d : Config) : Type 0 where
  pub own : (n : ℕ) → Member n c.own → Member n d.own
  pub frame : (x : Tree) → Member x c.frame → Member x d.frame

pub deducible_grows : {sig : Sig} {c d : Config} {x : Tree} → Grows c d → CanGive sig c x → CanGive sig d x
deducible_grows {sig} {c} {d} {x} h k = record { deducible = deducible_grows_to sig c.own d.own c.frame d.frame x h.own h.frame k.deducible; normal = k.normal }

pub facts_apart : (f g : Fact) → f ≡ g → (f.name ≡ g.name → ⊥) → ⊥
facts_apart f g e h = h (ap (λ (x : Fact). x.name) e)

-- knowledge: no act (action.out is) taken or added, and c and d know the same
pub knowledge_kept : (sig : Sig) (c d : Config) (s : RuleState) (ks : List ℕ) (left : List Fact) (rest : List (Option Fact)) (right : List Fact) → KnowledgePart sig c s → Grows c d → Grows d c → Takes s.facts ks left rest → ((x : Tree) → total (spent (count_fact (out_fact x))) left ≡ 0) → ((f : Fact) → Member f right → (x : Tree) → f ≡ out_fact x → ⊥) → KnowledgePart sig d (record s { facts = adds rest right })
knowledge_kept sig c d s ks left rest right k up down takes none quiet = record {
  derivation = derivation_grows sig c.own d.own c.frame d.frame (reverse s.known) up.own up.frame k.derivation;
  outs = λ i f e x g. every-adds (λ a. (y : Tree) → a ≡ out_fact y → Member y d.frame) rest right
      (takes_every (λ a. (y : Tree) → a ≡ out_fact y → Member y d.frame) (λ j a h y l. up.frame y (k.outs j a h y l)) takes)
      (λ a m y l. absurd (quiet a m y l)) i f e x g;
  framed = λ x m. elim (k.framed x (down.frame x m)) [
    | inl a ↦ inl a
    | inr b ↦ inr (let w = takes_total (count_fact (out_fact x)) refl takes in let z = none x in let more = total-append (count_fact (out_fact x)) rest (map (λ f. Some f) right) in omega arith)
  ];
  owned = λ n m. k.owned n (down.own n m);
}

-- names: what is drawn and what is used balance
pub names_kept : {holders : List Holder} (agents later : List (Option Agent)) (c d : Config) (s : RuleState) (ks : List ℕ) (left : List Fact) (rest : List (Option Fact)) (right : List Fact) → NamesPart agents c s holders → Takes s.facts ks left rest → ((n : ℕ) → total (count_fact (fresh_fact (fresh n))) (map (λ f. Some f) right) + (total (count_name n) d.made + (total (count_name n) d.own + total (count_tag n) later)) ≤ total (spent (count_fact (fresh_fact (fresh n)))) left + (total (count_name n) c.made + (total (count_name n) c.own + total (count_tag n) agents))) → NamesPart later d (record s { facts = adds rest right }) holders
names_kept agents later c d s ks left rest right p takes h = record {
  once = p.once;
  shares = λ n. let w = takes_total (count_fact (fresh_fact (fresh n))) refl takes in let more = total-append (count_fact (fresh_fact (fresh n))) rest (map (λ f. Some f) right) in let old = p.shares n in let new = h n in omega arith;
}

-- the same, where locks are opened or closed
pub names_held : (holders others : List Holder) (agents later : List (Option Agent)) (c d : Config) (s : RuleState) (ks : List ℕ) (left : List Fact) (rest : List (Option Fact)) (right : List Fact) → NamesPart agents c s holders → Takes s.facts ks left rest → ((n : ℕ) → total (count_fact (fresh_fact (fresh n))) (map (λ f. Some f) right) + (total (count_name n) d.made + (total (count_name n) d.own + total (count_tag n) later)) + total (count_holder n) others ≤ total (spent (count_fact (fresh_fact (fresh n)))) left + (total (count_name n) c.made + (total (count_name n) c.own + total (count_tag n) agents)) + total (count_holder n) holders) → NamesPart later d (record s { facts = adds rest right }) others
names_held holders others agents later c d s ks left rest right p takes h = record {
  once = p.once;
  shares = λ n. let w = takes_total (count_fact (fresh_fact (fresh n))) refl takes in let more = total-append (count_fact (fresh_fact (fresh n))) rest (map (λ f. Some f) right) in let old = p.shares n in let new = h n in omega arith;
}

-- traces: the rules show nothing that counts
pub record Quiet (acts : List Fact) : Type 0 where
  pub hidden : visible acts ≡ []
  pub no_k : (y : Tree) → Member (k_fact y) acts → ⊥
  pub no_demand : NoDemand acts
  pub no_write : NoWrite acts

pub quiet_none : Quiet []
quiet_none = record { hidden = refl; no_k = λ y m. elim m [ ]; no_demand = no_demand_none; no_write = no_write_none }

pub quiet_init : Quiet (init_fact ∷ [])
quiet_init = record { hidden = refl; no_k = λ y m. k y m; no_demand = no_demand_one init_fact refl; no_write = no_write_one init_fact refl }
  where
    none : (f : Fact) → Member f [] → ⊥
    none f m = elim m [ ]

    only : (f g : Fact) → Member f (g ∷ []) → f ≡ g
    only f g Member.here = refl
    only f g (Member.later m) = absurd (none f m)

    k : (y : Tree) → Member (k_fact y) (init_fact ∷ []) → ⊥
    k y m = facts_apart (k_fact y) init_fact (only (k_fact y) init_fact m) (λ e. cc)

-- the rules move alone
pub trace_rules : (sig : Sig) (start : Proc) (pending : Option Tree) (c : Config) (tr full : Trace) (acts : List Fact) → TracePart sig start pending c tr full → Quiet acts → TracePart sig start pending c tr (full ++ acts ∷ [])
trace_rules sig start pending c tr full acts p q = record {
  shows = hide_push full acts ∙ ap (λ v. hide full ++ shown v) q.hidden ∙ append-nil (hide full) ∙ p.shows;
  waiting = p.waiting;
  free = λ x f. p.free x (free_quiet full acts x q.no_k f);
  demands = demands_quiet (equations sig) full acts p.demands q.no_demand;
  store = store_quiet sig c.store full acts p.store q.no_write;
}

-- the same, where the restrictions are seen to otherwise
pub trace_acts : (sig : Sig) (start : Proc) (pending : Option Tree) (c : Config) (tr full : Trace) (acts : List Fact) → TracePart sig start pending c tr full → visible acts ≡ [] → ((y : Tree) → Member (k_fact y) acts → ⊥) → MeetsSix (equations sig) (full ++ acts ∷ []) → NoWrite acts → TracePart sig start pending c tr (full ++ acts ∷ [])
trace_acts sig start pending c tr full acts p hidden no_k demands no_write = record {
  shows = hide_push full acts ∙ ap (λ v. hide full ++ shown v) hidden ∙ append-nil (hide full) ∙ p.shows;
  waiting = p.waiting;
  free = λ x f. p.free x (free_quiet full acts x no_k f);
  demands = demands;
  store = store_quiet sig c.store full acts p.store no_write;
}

-- the process makes a silent step
pub trace_silent : (sig : Sig) (start : Proc) (pending : Option Tree) (c d : Config) (tr full : Trace) → TracePart sig start pending c tr full → Grows c d → d.store ≡ c.store → ProcessStep sig c [] d → TracePart sig start pending d (tr ++ []) full
trace_silent sig start pending c d tr full p up same step = record {
  shows = p.shows ∙ ap (λ x. x ++ pending_place pending) (sym (append-nil tr));
  waiting = λ x e. deducible_grows up (p.waiting x e);
  free = λ x f. elim (p.free x f) [
    | inl a ↦ inl a
    | inr b ↦ inr (
      b.0,
      record {
        before = b.1.before ++ [];
        reached = ProcessRun.further b.1.reached step;
        is = append-nil tr ∙ b.1.is ∙ ap (λ z. z ++ shown (k_fact x ∷ [])) (sym (append-nil b.1.before));
        derived = deducible_grows up b.1.derived;
      },
    )
  ];
  demands = p.demands;
  store = subst (λ st. StorePart sig st full) (sym same) p.store;
}

-- both move, and the store may change
pub trace_both : (sig : Sig) (start : Proc) (pending : Option Tree) (c d : Config) (tr full : Trace) (acts : List Fact) → TracePart sig start pending c tr full → visible acts ≡ [] → ((y : Tree) → Member (k_fact y) acts → ⊥) → MeetsSix (equations sig) (full ++ acts ∷ []) → StorePart sig d.store (full ++ acts ∷ []) → Grows c d → ProcessStep sig c [] d → TracePart sig start pending d (tr ++ []) (full ++ acts ∷ [])
trace_both sig start pending c d tr full acts p hidden no_k demands store up step = record {
  shows = hide_push full acts ∙ ap (λ v. hide full ++ shown v) hidden ∙ append-nil (hide full) ∙ p.shows ∙ ap (λ x. x ++ pending_place pending) (sym (append-nil tr));
  waiting = λ x e. deducible_grows up (p.waiting x e);
  free = λ x f. elim (p.free x (free_quiet full acts x no_k f)) [
    | inl a ↦ inl a
    | inr b ↦ inr (
      b.0,
      record {
        before = b.1.before ++ [];
        reached = ProcessRun.further b.1.reached step;
        is = append-nil tr ∙ b.1.is ∙ ap (λ z. z ++ shown (k_fact x ∷ [])) (sym (append-nil b.1.before));
        derived = deducible_grows up b.1.derived;
      },
    )
  ];
  demands = demands;
  store = store;
}

-- places

pub spot_below : (o : Option ScopedPlace) (path : List ℕ) (d : ℕ) (p q : ScopedPlace) → scoped_place_at o path ≡ Some p → child p d ≡ Some q → scoped_place_at o (path ++ d ∷ []) ≡ Some q
spot_below None path d p q e h = absurd (cc)
spot_below (Some r) [] d p q e h =
    let same : child r d ≡ Some q = ap (λ x. child x d) (some_same r p e) ∙ h in
    ap (λ o. scoped_place_at o []) same
  where
    some_same : (a b : ScopedPlace) → Some a ≡ Some b → a ≡ b
    some_same a b g = cc
spot_below (Some r) (x ∷ path) d p q e h = spot_below (child r x) path d p q e h

-- where a name isn't in scope there is nothing to hide
pub without_absent : (env : Env) (x : Var) → IsFree x (names env) → without (chosen env) x ≡ chosen env
without_absent env x h = fun_ext (λ y. go y (bytes_eq x.name y.name) refl)
  where
    go : (y : Var) (b : Bool) → bytes_eq x.name y.name ≡ b → cond b (variable y) (chosen env y) ≡ chosen env y
    go y true e = sym (ap (λ c. cond c (env.choice y) (variable y)) (subst (λ n. is_known (var_names env.scope) n ≡ false) (same_name_true x.name y.name e) h))
    go y false e = refl
