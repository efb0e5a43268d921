-- What isn't told of a line, tried by hand.
use Rattle.std.proofs.Common.{◌≡◌, ℕ, true, false, codes, List, [], ◌∷◌, ◌++◌, length, refl, ap, ◌∙◌}
use Rattle.std.specs.Fmt.{digits}
use Rattle.std.specs.Str.{bytes_eq}
use Rattle.sap_called.specs.Names.{Draw}
use Rattle.sap_process.specs.Action as action
use Rattle.sap_process.specs.Configuration.{Config, Runs, initial}
use Rattle.sap_process.specs.Proc.{Proc, act, test}
use Rattle.sap_runs.specs.Inner.{different, locked}
use Rattle.sap_runs.specs.declared.process_step.PStep.TheVariants as line
use Rattle.sap_terms.specs.Signature.{Sig}
use Rattle.sap_terms.specs.Tree.{Tree, public}
use Rattle.sap_terms.specs.declared.fact.Fact.{Fact}
use Rattle.sap_tell.specs.Told as told
use Rattle.sap_tell.specs.Told.{IsDoing, IsToldLine}
use Rattle.sap_tell.specs.ToldExamples.{at_root, first_names, hi, key, made, who}
use Rattle.sap_tell.specs.Said.{said_event, said_if, said_out, said_word}
use Rattle.sap_tell.specs.ToldText.{begins_text, ends_text, held_text, seen_texts, line_text}

-- a thread has one head
same_head : (c : Config) (t : ℕ) (p q : Proc) → Runs c t p → Runs c t q → p ≡ q
same_head c t p q a b = cc

-- an event is told in one way
event_doing : {g : Sig} {ds : List Draw} {c : Config} {es fs : List Tree} {t : ℕ} {f h : Fact} {p : Proc} {doing : List ℕ} {outcomes : List (List ℕ)}
    → Runs c t (act (action.event f) p) → IsDoing g ds c es (line.Event t) [] (h ∷ []) fs doing outcomes → (doing ≡ said_event ds f h) × (outcomes ≡ [])
event_doing {ds = ds} {c = c} {f = f} {h = h} {p = p} r (told.shows {f = e} {p = q} t s) =
    let is = same_head c t (act (action.event e) q) (act (action.event f) p) s r in
    let stands : e ≡ f = cc in
    (ap (λ x. said_event ds x h) stands, refl)

event_told : {g : Sig} {c : Config} {p : Proc} {text : List ℕ} → Runs c 2 (act (action.event made) p)
    → IsToldLine g 4 (who (line.Event 2)) first_names c [] (line.Event 2) [] (made ∷ []) [] text → text ≡ codes "4. thread 2 at 111: event Made(pk(~sk.1)) -- shows Made(pk(~sk.1))"
unfolding digits
event_told r l =
    let d = event_doing r l.done in
    l.written ∙ (λ i. line_text 4 (who (line.Event 2)) (d.0 i) (seen_texts first_names (made ∷ []) [] [] ++ d.1 i))

out_doing : {g : Sig} {ds : List Draw} {c : Config} {es : List Tree} {m n : Tree} {p : Proc} {t : ℕ} {doing : List ℕ} {outcomes : List (List ℕ)} {fs : List Tree}
    → Runs c t (act (action.out m) p) → IsDoing g ds c es (line.Out t) [] [] fs doing outcomes → fs ≡ es ++ n ∷ [] → ((u : Tree) → es ++ u ∷ [] ≡ es ++ n ∷ [] → u ≡ n)
    → (doing ≡ said_out ds (m ∷ []) (n ∷ [])) × (outcomes ≡ [])
out_doing {ds = ds} {c = c} {m = m} {p = p} r (told.outputs {m = k} {p = q} t u s) e one =
    let is = same_head c t (act (action.out k) q) (act (action.out m) p) s r in
    let stands : k ≡ m = cc in
    ((λ i. said_out ds (stands i ∷ []) (one u e i ∷ [])), refl)

first_one : (m n : Tree) → m ∷ [] ≡ n ∷ [] → m ≡ n
first_one m n e = cc

out_told : {g : Sig} {c : Config} {p : Proc} {text : List ℕ} → Runs c 2 (act (action.out key) p) → IsToldLine g 8 (who (line.Out 2)) first_names c [] (line.Out 2) [] [] (key ∷ []) text
    → text ≡ codes "8. thread 2 at 111: out(pk(~sk.1)) -- knows 0: pk(~sk.1)"
unfolding digits
out_told r l =
    let d = out_doing {n = key} r l.done refl (λ m. first_one m key) in
    l.written ∙ (λ i. line_text 8 (who (line.Out 2)) (d.0 i) (seen_texts first_names [] [] (key ∷ []) ++ d.1 i))

pub differ : {a b : List ℕ} → bytes_eq a b ≡ false → bytes_eq b b ≡ true → a ≡ b → ⊥
differ {b = b} apart alike e = let same : bytes_eq b b ≡ false = rw e at apart in absurd (cc)

pub other_entry : (g : Sig) (c : Config) (p : Proc) → Runs c 2 (act (action.out key) p) → ¬ IsToldLine g 8 (who (line.Out 2)) first_names c [] (line.Out 2) [] [] (key ∷ []) (codes "8. thread 2 at 111: out(pk(~sk.1)) -- knows 1: pk(~sk.1)")
other_entry g c p r l = differ refl refl (out_told r l)

pub no_outcome : (g : Sig) (c : Config) (p : Proc) → Runs c 2 (act (action.event made) p) → ¬ IsToldLine g 4 (who (line.Event 2)) first_names c [] (line.Event 2) [] (made ∷ []) [] (codes "4. thread 2 at 111: event Made(pk(~sk.1))")
no_outcome g c p r l = differ refl refl (event_told r l)

pub other_term : (g : Sig) (c : Config) (p : Proc) → Runs c 2 (act (action.event made) p) → ¬ IsToldLine g 4 (who (line.Event 2)) first_names c [] (line.Event 2) [] (made ∷ []) [] (codes "4. thread 2 at 111: event Made(pk(~1)) -- shows Made(pk(~sk.1))")
other_term g c p r l = differ refl refl (event_told r l)

-- a thread that begins has the next number
copy_doing : {g : Sig} {ds : List Draw} {c : Config} {es fs : List Tree} {t : ℕ} {doing : List ℕ} {outcomes : List (List ℕ)}
    → IsDoing g ds c es (line.Rep t) [] [] fs doing outcomes → (doing ≡ codes "!") × (outcomes ≡ begins_text (length c.threads) ∷ [])
copy_doing (told.copies t) = (refl, refl)

copy_told : {g : Sig} {p : Proc} {text : List ℕ} → IsToldLine g 1 (at_root (line.Rep 0)) [] (initial p) [] (line.Rep 0) [] [] [] text
    → text ≡ codes "1. thread 0 at the root: ! -- thread 1 begins"
unfolding digits
copy_told l =
    let d = copy_doing l.done in
    l.written ∙ (λ i. line_text 1 (at_root (line.Rep 0)) (d.0 i) (seen_texts [] [] [] [] ++ d.1 i))

pub parent : (g : Sig) (p : Proc) → ¬ IsToldLine g 1 (at_root (line.Rep 0)) [] (initial p) [] (line.Rep 0) [] [] [] (codes "1. thread 0 at the root: ! -- thread 0 begins")
parent g p l = differ refl refl (copy_told l)

-- the other branch is told where the terms differ
else_doing : {g : Sig} {ds : List Draw} {c : Config} {es fs : List Tree} {m n x y : Tree} {p q : Proc} {t : ℕ} {doing : List ℕ} {outcomes : List (List ℕ)}
    → Runs c t (test m n p q) → IsDoing g ds c es (line.Else t) (different x y ∷ []) [] fs doing outcomes
    → (doing ≡ said_if ds (m ∷ n ∷ []) (x ∷ y ∷ [])) × (outcomes ≡ codes "else" ∷ [])
else_doing {ds = ds} {c = c} {m = m} {n = n} {x = x} {y = y} {p = p} {q = q} r (told.differs {m = k} {n = l} {p = p'} {q = q'} t s) =
    let is = same_head c t (test k l p' q') (test m n p q) s r in
    let left : k ≡ m = cc in
    let right : l ≡ n = cc in
    ((λ i. said_if ds (left i ∷ right i ∷ []) (x ∷ y ∷ [])), refl)

else_told : {g : Sig} {c : Config} {p q : Proc} {text : List ℕ} → Runs c 1 (test hi key p q)
    → IsToldLine g 3 (who (line.Else 1)) first_names c [] (line.Else 1) (different hi key ∷ []) [] [] text → text ≡ codes "3. thread 1 at 2: if 'hi' = pk(~sk.1) -- else"
unfolding digits
else_told r l =
    let d = else_doing r l.done in
    l.written ∙ (λ i. line_text 3 (who (line.Else 1)) (d.0 i) (seen_texts first_names [] [] [] ++ d.1 i))

pub turned : (g : Sig) (c : Config) (p q : Proc) → Runs c 1 (test hi key p q) → ¬ IsToldLine g 3 (who (line.Else 1)) first_names c [] (line.Else 1) (different hi key ∷ []) [] [] (codes "3. thread 1 at 2: if 'hi' = pk(~sk.1) -- then")
turned g c p q r l = differ refl refl (else_told r l)

-- a term that is locked is held from then on
lock_doing : {g : Sig} {ds : List Draw} {c : Config} {es fs : List Tree} {m k : Tree} {n : ℕ} {p : Proc} {t : ℕ} {doing : List ℕ} {outcomes : List (List ℕ)}
    → Runs c t (act (action.lock m n) p) → IsDoing g ds c es (line.Lock t) (locked k ∷ []) [] fs doing outcomes
    → (doing ≡ said_word (codes "lock") ds (m ∷ []) (k ∷ [])) × (outcomes ≡ held_text ds k ∷ [])
lock_doing {ds = ds} {c = c} {m = m} {k = k} {n = n} {p = p} r (told.locks {m = u} {i = j} {p = q} t s) =
    let is = same_head c t (act (action.lock u j) q) (act (action.lock m n) p) s r in
    let stands : u ≡ m = cc in
    ((λ i. said_word (codes "lock") ds (stands i ∷ []) (k ∷ [])), refl)

lock_told : {g : Sig} {c : Config} {p : Proc} {n : ℕ} {text : List ℕ} → Runs c 2 (act (action.lock (public (codes "db")) n) p)
    → IsToldLine g 5 (who (line.Lock 2)) first_names c [] (line.Lock 2) (locked (public (codes "db")) ∷ []) [] [] text → text ≡ codes "5. thread 2 at 111: lock 'db' -- 'db' is held"
unfolding digits
lock_told r l =
    let d = lock_doing r l.done in
    l.written ∙ (λ i. line_text 5 (who (line.Lock 2)) (d.0 i) (seen_texts first_names [] [] [] ++ d.1 i))

pub other_outcome : (g : Sig) (c : Config) (p : Proc) (n : ℕ) → Runs c 2 (act (action.lock (public (codes "db")) n) p) → ¬ IsToldLine g 5 (who (line.Lock 2)) first_names c [] (line.Lock 2) (locked (public (codes "db")) ∷ []) [] [] (codes "5. thread 2 at 111: lock 'db' -- 'db' is free")
other_outcome g c p n r l = differ refl refl (lock_told r l)

-- the thread whose process is at its end is the one that ends
end_doing : {g : Sig} {ds : List Draw} {c : Config} {es fs : List Tree} {t : ℕ} {doing : List ℕ} {outcomes : List (List ℕ)}
    → IsDoing g ds c es (line.Nil t) [] [] fs doing outcomes → (doing ≡ codes "0") × (outcomes ≡ ends_text t ∷ [])
end_doing (told.ends t) = (refl, refl)

end_told : {g : Sig} {c : Config} {text : List ℕ} → IsToldLine g 2 (who (line.Nil 1)) first_names c [] (line.Nil 1) [] [] [] text
    → text ≡ codes "2. thread 1 at 2: 0 -- thread 1 ends"
unfolding digits
end_told l =
    let d = end_doing l.done in
    l.written ∙ (λ i. line_text 2 (who (line.Nil 1)) (d.0 i) (seen_texts first_names [] [] [] ++ d.1 i))

pub other_end : (g : Sig) (c : Config) → ¬ IsToldLine g 2 (who (line.Nil 1)) first_names c [] (line.Nil 1) [] [] [] (codes "2. thread 1 at 2: 0 -- thread 0 ends")
other_end g c l = differ refl refl (end_told l)
