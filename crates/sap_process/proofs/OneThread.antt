-- Where a step comes from: a thread, two that meet, or the adversary.
use Rattle.std.proofs.Common.{◌≡◌, ◌⊎◌, ℕ, zero, suc, List, [], ◌∷◌, ◌++◌, Option, Some, None, false, true, slice_get, slice_set, refl, sym, ap, subst, ◌∙◌, inl, inr}
use Rattle.sap_terms.specs.AdversaryFacts.{k_fact}
use Rattle.sap_terms.specs.Choice.{Choice, instance}
use Rattle.sap_terms.specs.Equal.{IsTheoryEqual}
use Rattle.sap_terms.specs.Equations.{equations, app2, pair_name}
use Rattle.sap_terms.specs.Message.{IsMessageChoice}
use Rattle.sap_terms.specs.Modulo.{instance_facts, IsFormOfFact, AreEqualFacts, AreFormsOfFacts}
use Rattle.sap_terms.specs.Normal.{IsNormalForm}
use Rattle.sap_terms.specs.Piles.{Pile, Takes, adds}
use Rattle.sap_terms.specs.Signature.{Sig}
use Rattle.sap_terms.specs.Tree.{Tree, fresh}
use Rattle.sap_terms.specs.Variables.{tree_vars, facts_vars}
use Rattle.sap_terms.specs.declared.fact.Fact.{Fact}
use Rattle.sap_process.specs.Action.{Action, new, out, send, input, receive, event, insert, delete, lock, unlock, embedded}
use Rattle.sap_process.specs.Configuration.{Config, Runs, CanGive, IsUnused, becomes, spawns, makes, owns, sends_out, stores, holding, leaves}
use Rattle.sap_process.specs.Proc.{Proc, nil, parallel, replicated, act, test, lookup}
use Rattle.sap_process.specs.ProcessSteps.{ProcessStep, Fits, with_choice, with_term}

-- an embedded rule took facts that were there, under a choice of messages
pub record Ruled (g : Sig) (c d : Config) (label l e r : List Fact) (t : ℕ) (p : Proc) : Type 0 where
  pub choice : Choice
  pub messages : IsMessageChoice g choice
  pub numbers : List ℕ
  pub left : List Fact
  pub added : List Fact
  pub rest : Pile
  pub equal : AreEqualFacts (equations g) (instance_facts choice l) left
  pub takes : Takes c.facts numbers left rest
  pub acts : AreFormsOfFacts (equations g) (instance_facts choice e) label
  pub right : AreFormsOfFacts (equations g) (instance_facts choice r) added
  pub on : d ≡ leaves (becomes c t (Some (with_choice choice (facts_vars (l ++ (e ++ r))) p))) (adds rest added)

-- an input took what the adversary can give and what fits
pub record Taken (g : Sig) (c d : Config) (label : List Fact) (t : ℕ) (m : Tree) (p : Proc) : Type 0 where
  pub choice : Choice
  pub term : Tree
  pub given : CanGive g c term
  pub fits : Fits g choice m term
  pub shown : label ≡ k_fact term ∷ []
  pub on : d ≡ becomes c t (Some (with_choice choice (tree_vars m) p))

-- the same of a channel and a message, as a pair
pub record TakenOn (g : Sig) (c d : Config) (label : List Fact) (t : ℕ) (m n : Tree) (p : Proc) : Type 0 where
  pub choice : Choice
  pub term : Tree
  pub given : CanGive g c term
  pub messages : IsMessageChoice g choice
  pub equal : IsTheoryEqual (equations g) (app2 pair_name m (instance choice n)) term
  pub shown : label ≡ k_fact term ∷ []
  pub on : d ≡ becomes c t (Some (with_choice choice (tree_vars n) p))

-- what thread t, which runs as this action over this process, comes to
abbrev pub AfterAction : Sig → Config → Config → List Fact → ℕ → Action → Proc → Type 0
AfterAction g c d label t (new x) p = (n : ℕ) × IsUnused c n × (label ≡ []) × (d ≡ makes (becomes c t (Some (with_term x (fresh n) p))) n)
AfterAction g c d label t (out m) p = (n : Tree) × IsNormalForm (equations g) m n × (label ≡ []) × (d ≡ sends_out (becomes c t (Some p)) n)
AfterAction g c d label t (send m n) p =
    (k : Tree) × (u : Tree) × IsNormalForm (equations g) m k × CanGive g c k × IsNormalForm (equations g) n u × (label ≡ k_fact k ∷ [])
    × (d ≡ sends_out (becomes c t (Some p)) u)
AfterAction g c d label t (input m) p = Taken g c d label t m p
AfterAction g c d label t (receive m n) p = TakenOn g c d label t m n p
AfterAction g c d label t (event f) p = (h : Fact) × IsFormOfFact (equations g) f h × (label ≡ h ∷ []) × (d ≡ becomes c t (Some p))
AfterAction g c d label t (insert m n) p =
    (k : Tree) × (v : Tree) × IsNormalForm (equations g) m k × IsNormalForm (equations g) n v × (label ≡ [])
    × (d ≡ stores (becomes c t (Some p)) k (Some v))
AfterAction g c d label t (delete m) p =
    (k : Tree) × IsNormalForm (equations g) m k × (label ≡ []) × (d ≡ stores (becomes c t (Some p)) k None)
AfterAction g c d label t (lock m i) p =
    (k : Tree) × IsNormalForm (equations g) m k × (c.held k ≡ false) × (label ≡ []) × (d ≡ holding (becomes c t (Some p)) k true)
AfterAction g c d label t (unlock m i) p =
    (k : Tree) × IsNormalForm (equations g) m k × (label ≡ []) × (d ≡ holding (becomes c t (Some p)) k false)
AfterAction g c d label t (embedded l e r) p = Ruled g c d label l e r t p

-- the same of each form
abbrev pub After : Sig → Config → Config → List Fact → ℕ → Proc → Type 0
After g c d label t nil = (label ≡ []) × (d ≡ becomes c t None)
After g c d label t (parallel p q) = (label ≡ []) × (d ≡ spawns (becomes c t (Some p)) q)
After g c d label t (replicated p) = (label ≡ []) × (d ≡ spawns c p)
After g c d label t (act x p) = AfterAction g c d label t x p
After g c d label t (test m n p q) =
    (IsTheoryEqual (equations g) m n × (label ≡ []) × (d ≡ becomes c t (Some p)))
    ⊎ ((¬ IsTheoryEqual (equations g) m n) × (label ≡ []) × (d ≡ becomes c t (Some q)))
After g c d label t (lookup m x p q) =
    (k : Tree) × IsNormalForm (equations g) m k
    × (((v : Tree) × (c.store k ≡ Some v) × (label ≡ []) × (d ≡ becomes c t (Some (with_term x v p))))
    ⊎ ((c.store k ≡ None) × (label ≡ []) × (d ≡ becomes c t (Some q))))

-- what the adversary does alone
abbrev pub ByAdversary : Sig → Config → Config → List Fact → Type 0
ByAdversary g c d label = ((n : ℕ) × IsUnused c n × (label ≡ []) × (d ≡ owns c n)) ⊎ ((x : Tree) × CanGive g c x × (label ≡ k_fact x ∷ []) × (d ≡ c))

-- two threads met
pub record Met (g : Sig) (c d : Config) (label : List Fact) : Type 0 where
  pub sender : ℕ
  pub receiver : ℕ
  pub channel : Tree
  pub sent : Tree
  pub after : Proc
  pub other : Tree
  pub pattern : Tree
  pub behind : Proc
  pub choice : Choice
  pub sends : Runs c sender (act (send channel sent) after)
  pub receives : Runs c receiver (act (receive other pattern) behind)
  pub one_channel : IsTheoryEqual (equations g) channel other
  pub fits : Fits g choice pattern sent
  pub shown : label ≡ []
  pub on : d ≡ becomes (becomes c sender (Some after)) receiver (Some (with_choice choice (tree_vars pattern) behind))

pub data Origin (g : Sig) (c d : Config) (label : List Fact) : Type 0 where
  one : (t : ℕ) (p : Proc) → Runs c t p → After g c d label t p → Origin g c d label
  two : Met g c d label → Origin g c d label
  adversary : ByAdversary g c d label → Origin g c d label

pub origin : {g : Sig} {c d : Config} {label : List Fact} → ProcessStep g c label d → Origin g c d label
origin (ProcessStep.ends t r) = Origin.one t nil r (refl, refl)
origin (ProcessStep.splits {p = p} {q = q} t r) = Origin.one t (parallel p q) r (refl, refl)
origin (ProcessStep.copies {p = p} t r) = Origin.one t (replicated p) r (refl, refl)
origin (ProcessStep.makes_name {x = x} {p = p} t n r unused) = Origin.one t (act (new x) p) r (n, unused, refl, refl)
origin (ProcessStep.outputs {m = m} {n = n} {p = p} t r form) = Origin.one t (act (out m) p) r (n, form, refl, refl)
origin (ProcessStep.outputs_on {m = m} {n = n} {k = k} {u = u} {p = p} t r form can sent) =
    Origin.one t (act (send m n) p) r (k, u, form, can, sent, refl, refl)
origin (ProcessStep.inputs {n = n} {x = x} {p = p} t σ r can fits) =
    Origin.one t (act (input n) p) r (record { choice = σ; term = x; given = can; fits = fits; shown = refl; on = refl })
origin (ProcessStep.inputs_on {m = m} {n = n} {x = x} {p = p} t σ r can messages equal) =
    Origin.one t (act (receive m n) p) r (record { choice = σ; term = x; given = can; messages = messages; equal = equal; shown = refl; on = refl })
origin (ProcessStep.meets {m = m} {n = n} {l = l} {r = w} {p = p} {q = q} s t σ r z equal fits) = Origin.two (record {
  sender = s;
  receiver = t;
  channel = m;
  sent = n;
  after = p;
  other = l;
  pattern = w;
  behind = q;
  choice = σ;
  sends = r;
  receives = z;
  one_channel = equal;
  fits = fits;
  shown = refl;
  on = refl;
})
origin (ProcessStep.agrees {m = m} {n = n} {p = p} {q = q} t r equal) = Origin.one t (test m n p q) r (inl (equal, refl, refl))
origin (ProcessStep.differs {m = m} {n = n} {p = p} {q = q} t r differ) = Origin.one t (test m n p q) r (inr (differ, refl, refl))
origin (ProcessStep.shows {f = f} {h = h} {p = p} t r form) = Origin.one t (act (event f) p) r (h, form, refl, refl)
origin (ProcessStep.inserts {m = m} {n = n} {k = k} {v = v} {p = p} t r key form) = Origin.one t (act (insert m n) p) r (k, v, key, form, refl, refl)
origin (ProcessStep.deletes {m = m} {k = k} {p = p} t r key) = Origin.one t (act (delete m) p) r (k, key, refl, refl)
origin (ProcessStep.finds {m = m} {k = k} {v = v} {x = x} {p = p} {q = q} t r key has) =
    Origin.one t (lookup m x p q) r (k, key, inl (v, has, refl, refl))
origin (ProcessStep.misses {m = m} {k = k} {x = x} {p = p} {q = q} t r key has) = Origin.one t (lookup m x p q) r (k, key, inr (has, refl, refl))
origin (ProcessStep.locks {m = m} {k = k} {i = i} {p = p} t r form free) = Origin.one t (act (lock m i) p) r (k, form, free, refl, refl)
origin (ProcessStep.unlocks {m = m} {k = k} {i = i} {p = p} t r form) = Origin.one t (act (unlock m i) p) r (k, form, refl, refl)
origin (ProcessStep.embeds {l = l} {e = e} {r = w} {rest = rest} {p = p} t ks σ left acts right r messages equal takes shown adds) =
    Origin.one t (act (embedded l e w) p) r (record {
      choice = σ;
      messages = messages;
      numbers = ks;
      left = left;
      added = right;
      rest = rest;
      equal = equal;
      takes = takes;
      acts = shown;
      right = adds;
      on = refl;
    })
origin (ProcessStep.adversary_makes n unused) = Origin.adversary (inl (n, unused, refl, refl))
origin (ProcessStep.knows x can) = Origin.adversary (inr (x, can, refl, refl))

-- one thread runs
abbrev pub Alone : Config → Proc → Type 0
Alone c p = c.threads ≡ Some p ∷ []

pub only_one : (c : Config) (t : ℕ) (p q : Proc) → Alone c p → Runs c t q → p ≡ q
only_one c t p q h e = at t (subst (λ ts. slice_get ts t ≡ Some (Some q)) h e)
  where
    at : (t : ℕ) → slice_get (Some p ∷ []) t ≡ Some (Some q) → p ≡ q
    at zero e = cc
    at (suc t) e = absurd (cc)

pub set_one : (c : Config) (t : ℕ) (p q : Proc) (o : Option Proc) → Alone c p → Runs c t q → slice_set c.threads t o ≡ o ∷ []
set_one c t p q o h e = ap (λ ts. slice_set ts t o) h ∙ at t (subst (λ ts. slice_get ts t ≡ Some (Some q)) h e)
  where
    at : (t : ℕ) → slice_get (Some p ∷ []) t ≡ Some (Some q) → slice_set (Some p ∷ []) t o ≡ o ∷ []
    at zero e = refl
    at (suc t) e = absurd (cc)

-- no thread both sends and receives
apart : (m n l r : Tree) (p q : Proc) → act (send m n) p ≡ act (receive l r) q → ⊥
apart m n l r p q e = cc

-- a step where one thread runs is the thread's or the adversary's
pub alone_goes : {g : Sig} {c d : Config} {label : List Fact} (p : Proc) → ProcessStep g c label d → Alone c p
    → ((t : ℕ) × ((o : Option Proc) → slice_set c.threads t o ≡ o ∷ []) × After g c d label t p) ⊎ ByAdversary g c d label
alone_goes {g} {c} {d} {label} p step h = by (origin step)
  where
    by : Origin g c d label → ((t : ℕ) × ((o : Option Proc) → slice_set c.threads t o ≡ o ∷ []) × After g c d label t p) ⊎ ByAdversary g c d label
    by (Origin.one t q r after) =
        inl (t, λ o. set_one c t p q o h r, subst (After g c d label t) (sym (only_one c t p q h r)) after)
    by (Origin.two m) = absurd (apart m.channel m.sent m.other m.pattern m.after m.behind (
        sym (only_one c m.sender p (act (send m.channel m.sent) m.after) h m.sends)
        ∙ only_one c m.receiver p (act (receive m.other m.pattern) m.behind) h m.receives))
    by (Origin.adversary b) = inr b

-- what the adversary does changes no thread
pub threads_stay : {g : Sig} {c d : Config} {label : List Fact} → ByAdversary g c d label → d.threads ≡ c.threads
threads_stay (inl (n, unused, quiet, on)) = ap (λ (e : Config). e.threads) on
threads_stay (inr (x, can, told, on)) = ap (λ (e : Config). e.threads) on
