-- A run of a process that follows a run of rules.
use Rattle.sap_translate.proofs.Premises.LowerLaws.{Laws, nf-normal, nf-fixed, nf-equal, nf}
use Rattle.sap_translate.specs.Members.{Member}
use Rattle.sap_translate.proofs.Parts.Control.{agent_of, LiveFact, live_counts}
use Rattle.sap_translate.proofs.Terms.Derive.{member}
use Rattle.sap_translate.proofs.Traces.LockTraces.{held_not_free}
use Rattle.sap_templates.specs.ChannelFacts.{fresh_fact}
use Rattle.sap_translate.specs.relation.Locks.{LockFree}
use Rattle.sap_translate.proofs.Shared.Facts.{eq_self}
use Rattle.sap_translate.proofs.Terms.Forms.{settled}
use Rattle.sap_translate.proofs.Parts.Kept.{kept_flush, kept_unflush}
use Rattle.sap_translate.proofs.Shared.Lookups.{only_member}
use Rattle.sap_translate.proofs.Parts.Places.{home, Home}
use Rattle.sap_translate.specs.relation.Envs.{Env, names, values}
use Rattle.sap_translate.specs.relation.Totals.{total}
use Rattle.sap_translate.specs.relation.Agents.{Agent, running}
use Rattle.sap_translate.specs.relation.Related.{Related, Free}
use Rattle.sap_translate.specs.relation.Counts.{count_name}
use Rattle.sap_place.specs.StateFacts.{state_fact}
use Rattle.sap_templates.specs.Places.{scoped_place_at, root, ScopedPlace}
use Rattle.sap_process.specs.Places.{place}
use Rattle.sap_templates.specs.Templates.{rules_of, init_rule, embedded_acts}
use Rattle.sap_process.specs.Configuration.{Config, initial, IsUnused}
use Rattle.sap_process.specs.Proc.{Proc}
use Rattle.sap_process.specs.ProcessSteps.{ProcessStep, ProcessRun}
use Rattle.sap_rule.specs.RuleSteps.{RuleState}
use Rattle.sap_rule.specs.declared.rule.Rule.{Rule}
use Rattle.sap_terms.specs.AdversaryFacts.{k_fact}
use Rattle.sap_terms.specs.Choice.{Choice}
use Rattle.sap_terms.specs.Equal.{IsTheoryEqual}
use Rattle.sap_terms.specs.Normal.{IsNormal}
use Rattle.sap_terms.specs.Piles.{Takes, used}
use Rattle.sap_terms.specs.Signature.{Sig}
use Rattle.sap_terms.specs.Equations.{Equations}
use Rattle.sap_terms.specs.Trace.{Trace, shown}
use Rattle.sap_terms.specs.Tree.{Tree, fresh}
use Rattle.sap_terms.specs.declared.fact.Fact.{Fact}
use Rattle.sap_terms.specs.declared.var.Var.{Var}
use Rattle.std.proofs.Common.{Bool, true, false, ◌≡◌, ℕ, ◌<◌, ◌⊎◌, inl, inr, List, [], ◌∷◌, ◌++◌, Option, Some, None, refl, sym, ap, ◌∙◌, arith, slice_get, subst, map}

-- a run of the process that stands for this rule state and full trace
pub record Followed (sig : Sig) (start : Proc) (s : RuleState) (full : Trace) : Type 0 where
  pub agents : List (Option Agent)
  pub pending : Option Tree
  pub c : Config
  pub tr : Trace
  pub reached : ProcessRun sig (initial start) c tr
  pub related : Related sig start agents pending c tr s full

-- the same, with what is pending said
pub record Sure (sig : Sig) (start : Proc) (s : RuleState) (full : Trace) (agents : List (Option Agent)) (pending : Option Tree) : Type 0 where
  pub c : Config
  pub tr : Trace
  pub reached : ProcessRun sig (initial start) c tr
  pub related : Related sig start agents pending c tr s full

pub flushed : (sig : Sig) (start : Proc) (s : RuleState) (full : Trace) (w : Followed sig start s full) → Sure sig start s full w.agents None
flushed sig start s full w = go w.pending refl
  where
    go : (o : Option Tree) → w.pending ≡ o → Sure sig start s full w.agents None
    go None e = record { c = w.c; tr = w.tr; reached = w.reached; related = subst (λ o. Related sig start w.agents o w.c w.tr s full) e w.related }
    go (Some x) e =
        let r : Related sig start w.agents (Some x) w.c w.tr s full = subst (λ o. Related sig start w.agents o w.c w.tr s full) e w.related in
        record {
          c = w.c;
          tr = w.tr ++ shown (k_fact x ∷ []);
          reached = ProcessRun.further w.reached (ProcessStep.knows x (r.traces.waiting x refl));
          related = kept_flush sig start w.agents x w.c w.tr s full r w.reached;
        }

-- the free K event is pending
pub waiting : (sig : Sig) (start : Proc) (s : RuleState) (full : Trace) (w : Followed sig start s full) (x : Tree) → Free full x → Sure sig start s full w.agents (Some x)
waiting sig start s full w x f = elim (w.related.traces.free x f) [
  | inl e ↦ record { c = w.c; tr = w.tr; reached = w.reached; related = subst (λ o. Related sig start w.agents o w.c w.tr s full) e w.related }
  | inr b ↦ record { c = w.c; tr = b.1.before; reached = b.1.reached; related = kept_unflush sig start w.agents x w.c w.tr s full (subst (λ o. Related sig start w.agents o w.c w.tr s full) b.0 w.related) f b.1 }
]

-- the thread of the state fact that a rule takes
pub record Seat (agents : List (Option Agent)) (path : List ℕ) (v : List Var) (b : Proc) (σ : Choice) : Type 0 where
  pub thread : ℕ
  pub env : Env
  pub stands : slice_get agents thread ≡ Some (Some (running path env b))
  pub scope : names env ≡ v
  pub bound : map σ v ≡ values env

pub head_of : {facts rest : List (Option Fact)} {ks : List ℕ} {f : Fact} {fs : List Fact} → Takes facts ks (f ∷ fs) rest → LiveFact facts f
head_of (Takes.one {k = k} e h) = record { number = k; is = e }

pub some_spot : (x y : ScopedPlace) → Some x ≡ Some y → x ≡ y
some_spot x y e = cc

pub seat : (sig : Sig) (start : Proc) (agents : List (Option Agent)) (pending : Option Tree) (c : Config) (tr : Trace) (s : RuleState) (full : Trace) → Related sig start agents pending c tr s full → (path : List ℕ) (v : List Var) (b : Proc) (σ : Choice) → scoped_place_at (root start) path ≡ Some (place path v b) → LiveFact s.facts (state_fact path (map σ v)) → Seat agents path v b σ
seat sig start agents pending c tr s full r path v b σ e l =
    let st = agent_of agents path (map σ v) s l.number r.facts l.is in
    let at = r.placed st.thread (running path st.env st.body) st.is in
    let same : place path (names st.env) st.body ≡ place path v b = some_spot _ _ (sym at.0 ∙ e) in
    let body : st.body ≡ b = ap (λ (z : ScopedPlace). z.body) same in
    record { thread = st.thread; env = st.env; stands = st.is ∙ ap (λ z. Some (Some (running path st.env z))) body; scope = ap (λ (z : ScopedPlace). z.above) same; bound = st.bound }

pub two_members : {A : Type 0} {x y z : A} → Member x (y ∷ z ∷ []) → (x ≡ y) ⊎ (x ≡ z)
two_members Member.here = inl refl
two_members (Member.later m) = inr (only_member m)

pub data OfThree {A : Type 0} (x a b c : A) : Type 0 where
  one : x ≡ a → OfThree x a b c
  two : x ≡ b → OfThree x a b c
  three : x ≡ c → OfThree x a b c

pub three_members : {A : Type 0} {x a b c : A} → Member x (a ∷ b ∷ c ∷ []) → OfThree x a b c
three_members Member.here = one refl
three_members (Member.later m) = elim (two_members m) [ inl h ↦ two h | inr h ↦ three h ]

pub took_none : {facts rest : List (Option Fact)} {ks : List ℕ} → Takes facts ks [] rest → rest ≡ facts
took_none Takes.nothing = refl

pub data Whence (r : Rule) (start : Proc) : Type 0 where
  is_init : r ≡ init_rule → Whence r start
  is_place : Home [] [] start r → Whence r start

pub whence : (r : Rule) (start : Proc) → Member r (rules_of start) → Whence r start
whence r start Member.here = is_init refl
whence r start (Member.later m) = is_place (home [] start [] r m)

pub name_counts : (n : ℕ) (xs : List ℕ) → Member n xs → 0 < total (count_name n) xs
name_counts n [] m = elim m [ ]
name_counts n (k ∷ xs) Member.here = let one : count_name n n ≡ 1 = rw (eq_self n) refl in omega arith
name_counts n (k ∷ xs) (Member.later m) = let h = name_counts n xs m in omega arith

-- normal forms that are theory-equal are the same
pub same_forms : (laws : Laws) → (e : Equations) (m n x z : Tree) → (nf laws) e m ≡ x → (nf laws) e n ≡ z → IsTheoryEqual e x z → x ≡ z
same_forms laws e m n x z a b h =
    let x_normal : IsNormal e x = subst (λ t. IsNormal e t) a ((nf-normal laws) e m) in
    let z_normal : IsNormal e z = subst (λ t. IsNormal e t) b ((nf-normal laws) e n) in
    sym ((nf-fixed laws) e x x_normal) ∙ (nf-equal laws) e h ∙ (nf-fixed laws) e z z_normal

-- the first fact apart
pub record Tail (facts : List (Option Fact)) (f : Fact) (fs : List Fact) (rest : List (Option Fact)) : Type 0 where
  pub k : ℕ
  pub ks : List ℕ
  pub is : slice_get facts k ≡ Some (Some f)
  pub takes : Takes (used facts k f) ks fs rest

pub tail_of : {facts rest : List (Option Fact)} {ks : List ℕ} {f : Fact} {fs : List Fact} → Takes facts ks (f ∷ fs) rest → Tail facts f fs rest
tail_of (Takes.one {k = k} {ks = ks} e h) = record { k = k; ks = ks; is = e; takes = h }

pub settled_said : (laws : Laws) → (e : Equations) (σ : Choice) (a : List Fact) → (settled laws) e σ (embedded_acts a) ≡ embedded_acts ((settled laws) e σ a)
settled_said laws e σ [] = refl
settled_said laws e σ (f ∷ fs) = refl

-- a live Fr: the name is new
pub is_new : {sig : Sig} {start : Proc} {agents : List (Option Agent)} {pending : Option Tree} {c : Config} {tr : Trace} {s : RuleState} {full : Trace} → Related sig start agents pending c tr s full → (n : ℕ) → LiveFact s.facts (fresh_fact (fresh n)) → IsUnused c n
is_new {c = c} {s = s} r n l =
    let live = live_counts s.facts l.number (fresh_fact (fresh n)) l.is in
    let shares = r.names.shares n in
    let once = r.names.once n in
    (λ m. let h = name_counts n c.made (member n c.made m) in absurd (omega arith), λ m. let h = name_counts n c.own (member n c.own m) in absurd (omega arith))

-- what no lock that is open has isn't held
pub not_held : {sig : Sig} {start : Proc} {agents : List (Option Agent)} {pending : Option Tree} {c : Config} {tr : Trace} {s : RuleState} {full : Trace} → Related sig start agents pending c tr s full → (x : Tree) (b : Bool) → c.held x ≡ b → LockFree full x → c.held x ≡ false
not_held {full = full} r x true e free = absurd (let b = r.locks.part.busy x e in held_not_free full x (fresh b.0) free b.2)
not_held r x false e free = e
