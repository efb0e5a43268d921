-- What the tables are behind a line: by the facts that stay and those that come, each with its number.
use Rattle.std.proofs.Common.{◌≡◌, ℕ, zero, suc, ◌+◌, ◌<◌, ◌≤◌, List, [], ◌∷◌, ◌++◌, Option, Some, refl, sym, ap, ◌∙◌, subst, arith, slice_get, map, length, true, false, Bool}
use Rattle.std.specs.Prelude.{◌||◌, nat_eq, codes}
use Rattle.std.proofs.lemmas.List.{length-append, length-map}
use Rattle.std.proofs.lemmas.Option.{slice_get_within}
use Rattle.std.proofs.lemmas.Slice.Zip.{AllZip-long}
use Rattle.std.specs.List.{AllZip, list_any, starts_with}
use Rattle.std.specs.Str.{bytes_eq}
use Rattle.sap_terms.specs.AdversaryFacts.{fr_fact, in_fact, out_fact}
use Rattle.sap_terms.specs.Piles.{Pile, adds}
use Rattle.sap_terms.specs.Reserved.{is_reserved, reserved_words}
use Rattle.sap_terms.specs.Tree.{Tree, fresh}
use Rattle.sap_terms.specs.declared.fact.Fact.{Fact}
use Rattle.sap_process.specs.Configuration.{Config}
use Rattle.sap_process.specs.Proc.{Proc}
use Rattle.sap_rule.specs.RuleSteps.{RuleState}
use Rattle.sap_templates.specs.ChannelFacts.{fresh_fact}
use Rattle.sap_translate.specs.Members.{Member}
use Rattle.sap_translate.specs.relation.Agents.{Agent, unborn, stands_as}
use Rattle.sap_translate.specs.relation.Counts.{is_control}
use Rattle.sap_translate.proofs.Shared.Facts.{names_apart, not_reserved}
use Rattle.sap_process_lines.specs.Tables.{ProcessTables}
use Rattle.sap_back.specs.Tables.{AreProcessTables, IsPending}

-- lists

pub got_below : {A : Type 0} (xs : List A) (i : ℕ) → i < length xs → (x : A) × (slice_get xs i ≡ Some x)
got_below [] i h = absurd (omega arith)
got_below (x ∷ xs) zero h = (x, refl)
got_below (x ∷ xs) (suc i) h = got_below xs i (omega arith)

pub zip_get : {A B : Type 0} (P : A → B → Type 0) (xs : List A) (ys : List B) (i : ℕ) (x : A) (y : B) → AllZip P xs ys → slice_get xs i ≡ Some x → slice_get ys i ≡ Some y → P x y
zip_get P [] ys i x y h e f = cc
zip_get P (a ∷ xs) [] i x y h e f = absurd h
zip_get P (a ∷ xs) (b ∷ ys) zero x y h e f = let one : a ≡ x = cc in let two : b ≡ y = cc in subst (λ z. P z y) one (subst (λ z. P a z) two h.0)
zip_get P (a ∷ xs) (b ∷ ys) (suc i) x y h e f = zip_get P xs ys i x y h.1 e f

map_got : (right : List Fact) (k : ℕ) (f : Fact) → slice_get (map (λ f. Some f) right) k ≡ Some (Some f) → slice_get right k ≡ Some f
map_got [] k f e = cc
map_got (h ∷ right) zero f e = cc
map_got (h ∷ right) (suc k) f e = map_got right k f e

-- a live fact with its number stays, or comes
pub data StaysOrComes (rest : Pile) (right : List Fact) (xs ns : List ℕ) (k : ℕ) (f : Fact) (t : ℕ) : Type 0 where
  stays : slice_get rest k ≡ Some (Some f) → slice_get xs k ≡ Some t → StaysOrComes rest right xs ns k f t
  comes : (i : ℕ) → k ≡ length rest + i → slice_get right i ≡ Some f → slice_get ns i ≡ Some t → StaysOrComes rest right xs ns k f t

stays_or_comes : (rest : Pile) (right : List Fact) (xs ns : List ℕ) (k : ℕ) (f : Fact) (t : ℕ) → length rest ≡ length xs → slice_get (adds rest right) k ≡ Some (Some f) → slice_get (xs ++ ns) k ≡ Some t → StaysOrComes rest right xs ns k f t
stays_or_comes [] right [] ns k f t e p q = comes k (omega arith) (map_got right k f p) q
stays_or_comes [] right (x ∷ xs) ns k f t e p q = absurd (omega arith)
stays_or_comes (r ∷ rest) right [] ns k f t e p q = absurd (omega arith)
stays_or_comes (r ∷ rest) right (x ∷ xs) ns zero f t e p q = stays p q
stays_or_comes (r ∷ rest) right (x ∷ xs) ns (suc k) f t e p q = elim (stays_or_comes rest right xs ns k f t (omega arith) p q) [ stays a b ↦ stays a b | comes i a b c ↦ comes i (omega arith) b c ]

-- facts

or_right : (a b c : Bool) → (a || b || c) ≡ false → (b ≡ false) × (c ≡ false)
or_right true b c e = cc
or_right false true c e = cc
or_right false false c e = (refl, e)

-- a fact with a name of its own says nothing of control
pub user_no_control : (f : Fact) → is_reserved f.name ≡ false → is_control f ≡ false
user_no_control f e =
    let both = or_right (list_any (λ word. bytes_eq f.name word) reserved_words) (starts_with nat_eq f.name (codes "State_")) (starts_with nat_eq f.name (codes "Semi_")) e in
    rw (both.0, both.1, not_reserved f.name (codes "Msg") e refl, not_reserved f.name (codes "Ack") e refl) refl

pub control_or_user : (f : Fact) → is_control f ≡ true → is_reserved f.name ≡ false → ⊥
control_or_user f c u = let z : true ≡ false = sym c ∙ user_no_control f u in cc

-- A fact that comes, with its number: it stands for a thread, as no fact of that thread did; it is sent, and is the entry; the adversary
-- gives it; Fr is made of the name; or it is a fact of the process, which came too.
pub data Comes (agents next : List (Option Agent)) (c d : Config) (fs : List Tree) : Fact → ℕ → Type 0 where
  stands : {f : Fact} {t : ℕ} (a : Agent) → is_control f ≡ true → slice_get next t ≡ Some (Some a) → Member f (stands_as a)
      → ((b : Agent) → slice_get agents t ≡ Some (Some b) → Member f (stands_as b) → ⊥) → Comes agents next c d fs f t
  sent : (x : Tree) (e : ℕ) → slice_get fs e ≡ Some x → Comes agents next c d fs (out_fact x) e
  given : (x : Tree) (e : ℕ) → Comes agents next c d fs (in_fact x) e
  made : (n : ℕ) → Comes agents next c d fs (fr_fact n) n
  piled : {f : Fact} {j : ℕ} → is_reserved f.name ≡ false → slice_get d.facts j ≡ Some (Some f) → length c.facts ≤ j → Comes agents next c d fs f j

-- who stands for it
record Stander (agents next : List (Option Agent)) (f : Fact) (t : ℕ) : Type 0 where
  agent : Agent
  is : slice_get next t ≡ Some (Some agent)
  stands_for : Member f (stands_as agent)
  unlike : (b : Agent) → slice_get agents t ≡ Some (Some b) → Member f (stands_as b) → ⊥

module _ (agents next : List (Option Agent)) (c d : Config) (fs : List Tree) where
  stander : {f : Fact} {t : ℕ} → is_control f ≡ true → Comes agents next c d fs f t → Stander agents next f t
  stander control (stands a k e m u) = record { agent = a; is = e; stands_for = m; unlike = u }
  stander control (sent x e h) = absurd (let z : false ≡ true = control in cc)
  stander control (given x e) = absurd (let z : false ≡ true = control in cc)
  stander control (made n) = absurd (let z : false ≡ true = control in cc)
  stander control (piled {f = f} u e k) = absurd (control_or_user f control u)

  pile_of : {f : Fact} {j : ℕ} → is_reserved f.name ≡ false → Comes agents next c d fs f j → (slice_get d.facts j ≡ Some (Some f)) × (length c.facts ≤ j)
  pile_of user (stands {f = f} a k e m u) = absurd (control_or_user f k user)
  pile_of user (sent x e h) = absurd (let z : true ≡ false = user in cc)
  pile_of user (given x e) = absurd (let z : true ≡ false = user in cc)
  pile_of user (made n) = absurd (let z : true ≡ false = user in cc)
  pile_of user (piled u e k) = (e, k)

  entry_of : {f : Fact} {e : ℕ} (x : Tree) → f ≡ out_fact x → Comes agents next c d fs f e → slice_get fs e ≡ Some x
  entry_of x same (stands {f = f} a k e m u) = absurd (let z : false ≡ true = ap is_control (sym same) ∙ k in cc)
  entry_of x same (sent y e h) = h ∙ ap (λ z. Some z) (argument y x same)
    where
      argument : (y x : Tree) → out_fact y ≡ out_fact x → y ≡ x
      argument y x e = let h : (out_fact y).args ≡ (out_fact x).args = ap (λ (z : Fact). z.args) e in cc
  entry_of x same (given y e) = absurd (names_apart (in_fact y).name (out_fact x).name refl (ap (λ (z : Fact). z.name) same))
  entry_of x same (made n) = absurd (names_apart (fr_fact n).name (out_fact x).name refl (ap (λ (z : Fact). z.name) same))
  entry_of x same (piled {f = f} u e k) = absurd (let z : true ≡ false = ap (λ (z : Fact). is_reserved z.name) (sym same) ∙ u in cc)

  name_of : {f : Fact} {n : ℕ} (x : Tree) → f ≡ fresh_fact x → Comes agents next c d fs f n → x ≡ fresh n
  name_of x same (stands {f = f} a k e m u) = absurd (let z : false ≡ true = ap is_control (sym same) ∙ k in cc)
  name_of x same (sent y e h) = absurd (names_apart (out_fact y).name (fresh_fact x).name refl (ap (λ (z : Fact). z.name) same))
  name_of x same (given y e) = absurd (names_apart (in_fact y).name (fresh_fact x).name refl (ap (λ (z : Fact). z.name) same))
  name_of x same (made n) = argument n x same
    where
      argument : (n : ℕ) (x : Tree) → fr_fact n ≡ fresh_fact x → x ≡ fresh n
      argument n x e = let h : (fr_fact n).args ≡ (fresh_fact x).args = ap (λ (z : Fact). z.args) e in cc
  name_of x same (piled {f = f} u e k) = absurd (let z : true ≡ false = ap (λ (z : Fact). is_reserved z.name) (sym same) ∙ u in cc)

-- What a line changes: which facts stay and which come, with their numbers; and the entries.
pub record Change (agents : List (Option Agent)) (c : Config) (es : List Tree) (s : RuleState) (tables : ProcessTables) (next : List (Option Agent)) (later : Option Tree) (d : Config) (fs : List Tree) (z : RuleState) (behind : ProcessTables) : Type 0 where
  pub rest : Pile
  pub right : List Fact
  pub numbers : List ℕ
  pub facts : z.facts ≡ adds rest right
  pub numbered : behind.facts ≡ tables.facts ++ numbers
  -- what stays was there
  pub kept : (k : ℕ) (f : Fact) → slice_get rest k ≡ Some (Some f) → slice_get s.facts k ≡ Some (Some f)
  pub size : length rest ≡ length s.facts
  -- what comes is right, and no two of these are the same fact of control, or have the number of one fact of the process
  pub come : AllZip (Comes agents next c d fs) right numbers
  pub once : (i j : ℕ) (f : Fact) → is_control f ≡ true → slice_get right i ≡ Some f → slice_get right j ≡ Some f → i ≡ j
  pub piled_once : (i k j : ℕ) (f h : Fact) → is_reserved f.name ≡ false → is_reserved h.name ≡ false → slice_get right i ≡ Some f → slice_get right k ≡ Some h
      → slice_get numbers i ≡ Some j → slice_get numbers k ≡ Some j → i ≡ k
  -- a fact of control that stays stands for its thread behind, and a fact of the process that stays is live there
  pub stand : (k t : ℕ) (f : Fact) → is_control f ≡ true → slice_get rest k ≡ Some (Some f) → slice_get tables.facts k ≡ Some t
      → (a : Agent) × (slice_get next t ≡ Some (Some a)) × Member f (stands_as a)
  pub pile : (k j : ℕ) (f : Fact) → is_reserved f.name ≡ false → slice_get rest k ≡ Some (Some f) → slice_get tables.facts k ≡ Some j → slice_get d.facts j ≡ Some (Some f)
  -- the entries stay
  pub longer : (e : ℕ) (x : Tree) → slice_get es e ≡ Some x → slice_get fs e ≡ Some x
  pub entries : (k e : ℕ) → slice_get behind.entries k ≡ Some e → slice_get fs e ≡ slice_get z.known k
  pub waits : IsPending fs later behind.pending
  pub unborn_first : (t : ℕ) (body : Proc) → slice_get next t ≡ Some (Some (unborn body)) → t ≡ 0
  pub all_entries : length behind.entries ≡ length z.known
  pub threads : behind.threads ≡ length next
  pub known : behind.known ≡ length fs
  pub piled : behind.piled ≡ length d.facts

module _ (agents : List (Option Agent)) (pending : Option Tree) (c : Config) (es : List Tree) (s : RuleState) (tables : ProcessTables) (old : AreProcessTables agents pending c es s tables) (next : List (Option Agent)) (later : Option Tree) (d : Config) (fs : List Tree) (z : RuleState) (behind : ProcessTables) (h : Change agents c es s tables next later d fs z behind) where
  -- a live fact behind, with its number
  found : (k t : ℕ) (f : Fact) → slice_get z.facts k ≡ Some (Some f) → slice_get behind.facts k ≡ Some t → StaysOrComes h.rest h.right tables.facts h.numbers k f t
  found k t f e n = stays_or_comes h.rest h.right tables.facts h.numbers k f t (h.size ∙ sym old.all_facts) (ap (λ xs. slice_get xs k) (sym h.facts) ∙ e) (ap (λ xs. slice_get xs k) (sym h.numbered) ∙ n)

  new_fact : (i t : ℕ) (f : Fact) → slice_get h.right i ≡ Some f → slice_get h.numbers i ≡ Some t → Comes agents next c d fs f t
  new_fact i t f e n = zip_get (Comes agents next c d fs) h.right h.numbers i f t h.come e n

  owners : (k t : ℕ) (f : Fact) → is_control f ≡ true → slice_get z.facts k ≡ Some (Some f) → slice_get behind.facts k ≡ Some t → (a : Agent) × (slice_get next t ≡ Some (Some a)) × Member f (stands_as a)
  owners k t f control e n = elim (found k t f e n) [
    | stays a b ↦ h.stand k t f control a b
    | comes i a b m ↦ (let o = stander agents next c d fs control (new_fact i t f b m) in (o.agent, o.is, o.stands_for))
  ]

  -- one that stays and one that comes don't stand for one thread alike
  unlike : (k i t : ℕ) (f : Fact) → is_control f ≡ true → slice_get h.rest k ≡ Some (Some f) → slice_get tables.facts k ≡ Some t → slice_get h.right i ≡ Some f → slice_get h.numbers i ≡ Some t → ⊥
  unlike k i t f control e n a b =
      let o = stander agents next c d fs control (new_fact i t f a b) in
      let w = old.owners k t f control (h.kept k f e) n in
      o.unlike w.0 w.1 w.2

  apart : (k j t : ℕ) (f : Fact) → is_control f ≡ true → slice_get z.facts k ≡ Some (Some f) → slice_get z.facts j ≡ Some (Some f) → slice_get behind.facts k ≡ Some t → slice_get behind.facts j ≡ Some t → k ≡ j
  apart k j t f control e i n m = elim (found k t f e n) [
    | stays a b ↦ elim (found j t f i m) [
      | stays x y ↦ old.apart k j t f control (h.kept k f a) (h.kept j f x) b y
      | comes o x y w ↦ absurd (unlike k o t f control a b y w)
    ]
    | comes o x y w ↦ elim (found j t f i m) [
      | stays a b ↦ absurd (unlike j o t f control a b y w)
      | comes u a b v ↦ (let same = h.once o u f control y b in x ∙ ap (λ q. length h.rest + q) same ∙ sym a)
    ]
  ]

  piles : (k j : ℕ) (f : Fact) → is_reserved f.name ≡ false → slice_get z.facts k ≡ Some (Some f) → slice_get behind.facts k ≡ Some j → slice_get d.facts j ≡ Some (Some f)
  piles k j f user e n = elim (found k j f e n) [
    | stays a b ↦ h.pile k j f user a b
    | comes i a b m ↦ (pile_of agents next c d fs user (new_fact i j f b m)).0
  ]

  -- one that stays and one that comes have different numbers
  newer : (k i j : ℕ) (f o : Fact) → is_reserved f.name ≡ false → is_reserved o.name ≡ false → slice_get h.rest k ≡ Some (Some f) → slice_get tables.facts k ≡ Some j → slice_get h.right i ≡ Some o → slice_get h.numbers i ≡ Some j → ⊥
  newer k i j f o user free e n a b =
      let low = slice_get_within c.facts j (Some f) (old.piles k j f user (h.kept k f e) n) in
      let high = (pile_of agents next c d fs free (new_fact i j o a b)).1 in
      omega arith

  pile_apart : (k i j : ℕ) (f o : Fact) → is_reserved f.name ≡ false → is_reserved o.name ≡ false → slice_get z.facts k ≡ Some (Some f) → slice_get z.facts i ≡ Some (Some o) → slice_get behind.facts k ≡ Some j → slice_get behind.facts i ≡ Some j → k ≡ i
  pile_apart k i j f o user free e p n m = elim (found k j f e n) [
    | stays a b ↦ elim (found i j o p m) [
      | stays x y ↦ old.pile_apart k i j f o user free (h.kept k f a) (h.kept i o x) b y
      | comes u x y w ↦ absurd (newer k u j f o user free a b y w)
    ]
    | comes u x y w ↦ elim (found i j o p m) [
      | stays a b ↦ absurd (newer i u j o f free user a b y w)
      | comes v a b q ↦ (let same = h.piled_once u v j f o user free y b w q in x ∙ ap (λ r. length h.rest + r) same ∙ sym a)
    ]
  ]

  sent_is : (k e : ℕ) (x : Tree) → slice_get z.facts k ≡ Some (Some (out_fact x)) → slice_get behind.facts k ≡ Some e → slice_get fs e ≡ Some x
  sent_is k e x i n = elim (found k e (out_fact x) i n) [
    | stays a b ↦ h.longer e x (old.sent k e x (h.kept k (out_fact x) a) b)
    | comes u a b m ↦ entry_of agents next c d fs x refl (new_fact u e (out_fact x) b m)
  ]

  made_is : (k n : ℕ) (x : Tree) → slice_get z.facts k ≡ Some (Some (fresh_fact x)) → slice_get behind.facts k ≡ Some n → x ≡ fresh n
  made_is k n x i j = elim (found k n (fresh_fact x) i j) [
    | stays a b ↦ old.made k n x (h.kept k (fresh_fact x) a) b
    | comes u a b q ↦ name_of agents next c d fs x refl (new_fact u n (fresh_fact x) b q)
  ]

  all_numbered : length behind.facts ≡ length z.facts
  all_numbered =
      let a : length behind.facts ≡ length (tables.facts ++ h.numbers) = ap (λ (xs : List ℕ). length xs) h.numbered in
      let b : length z.facts ≡ length (adds h.rest h.right) = ap (λ (xs : Pile). length xs) h.facts in
      let i = length-append tables.facts h.numbers in
      let j = length-append h.rest (map (λ f. Some f) h.right) in
      let k = length-map h.right (λ (f : Fact). Some f) in
      let l = AllZip-long (Comes agents next c d fs) h.right h.numbers h.come in
      let m = h.size in
      let n = old.all_facts in
      omega arith

  -- so they are the tables behind
  pub changed : AreProcessTables next later d fs z behind
  changed = record {
    owners = owners;
    apart = apart;
    piles = piles;
    pile_apart = pile_apart;
    sent = sent_is;
    made = made_is;
    entries = h.entries;
    waits = h.waits;
    unborn = h.unborn_first;
    all_facts = all_numbered;
    all_entries = h.all_entries;
    threads = h.threads;
    known = h.known;
    piled = h.piled;
  }
