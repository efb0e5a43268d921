use Rattle.std.proofs.Common.{◌≡◌, ℕ, List, [], ◌∷◌, Some}
use Rattle.std.proofs.lemmas.Result.{on_ok_weaker}
use Rattle.sap_share.specs.Shared.{tree_at}
use Rattle.sap_derive.specs.code.Clauses.{HasClause}
use Rattle.sap_derive.proofs.Brought.{first-numbered, second-numbered, decrypts-numbered, secret-numbered, reads-numbered, pair-openings, encrypted-openings, secret-openings, signed-openings, has-kept}
use Rattle.sap_derive.proofs.bring.open_all.Goals as goal

pub open_by-requires-clause-this : goal.open_by-requires-clause-this
open_by-requires-clause-this c =
    let s = c.in-Pair.ensures in
    first-numbered c.symbols_reduce_once.ensures c.args.table.now.sig c.args.table.now.trees c.args.openers.now c.requires.openers c.args.n c.requires.number c.requires.normal c.in-Pair.first c.in-Pair.second s.0 s.2

pub open_by-requires-in-Pair-clause-this : goal.open_by-requires-in-Pair-clause-this
open_by-requires-in-Pair-clause-this c =
    let s = c.in-Pair.ensures in
    second-numbered c.symbols_reduce_once.ensures c.args.table.now.sig c.args.table.now.trees c.args.openers.now c.requires.openers c.args.n c.requires.number c.requires.normal c.in-Pair.first c.in-Pair.second s.1 s.2

pub open_by-requires-in-Encrypted-clause-this : goal.open_by-requires-in-Encrypted-clause-this
open_by-requires-in-Encrypted-clause-this c =
    let s = c.in-Encrypted.ensures in
    decrypts-numbered c.symbols_reduce_once.ensures c.args.table.now.sig c.args.table.now.trees c.args.openers.now c.requires.openers c.args.n c.requires.number c.requires.normal c.in-Encrypted.message c.in-Encrypted.key s.0 s.1 s.2

pub open_by-requires-in-EncryptedTo-clause-this : goal.open_by-requires-in-EncryptedTo-clause-this
open_by-requires-in-EncryptedTo-clause-this c =
    let s = c.in-EncryptedTo.ensures in
    secret-numbered c.symbols_reduce_once.ensures c.args.table.now.sig c.args.table.now.trees c.args.openers.now c.requires.openers c.args.n c.requires.number c.requires.normal c.in-EncryptedTo.message c.in-EncryptedTo.secret s.0 s.1 s.2

pub open_by-requires-in-Signed-clause-this : goal.open_by-requires-in-Signed-clause-this
open_by-requires-in-Signed-clause-this c =
    let s = c.in-Signed.ensures in
    reads-numbered c.symbols_reduce_once.ensures c.args.table.now.sig c.args.table.now.trees c.args.openers.now c.requires.openers c.args.n c.requires.number c.requires.normal c.in-Signed.message c.in-Signed.key s.0 s.2

pub returns-in_ok-open_by-in-Pair-clause-has : goal.returns-in_ok-open_by-in-Pair-clause-has
returns-in_ok-open_by-in-Pair-clause-has c =
    let trees = c.args.table.now.trees in
    let mid = c.open_by.new.closure in
    let end = c.open_by-in-Pair.new.closure in
    let s = c.in-Pair.ensures in
    let opens = λ (h : (m : List ℕ) → c.args.openers.now.second ≡ Some m → HasClause trees end.clauses (tree_at trees c.args.n ∷ []) (tree_at trees c.in-Pair.second)).
    pair-openings c.symbols_reduce_once.ensures c.args.table.now.sig trees c.args.openers.now c.requires.openers end.clauses (tree_at trees c.in-Pair.first) (tree_at trees c.in-Pair.second) (tree_at trees c.args.n) s.2
    (λ m e. has-kept trees mid end (tree_at trees c.args.n ∷ []) (tree_at trees c.in-Pair.first) c.open_by-in-Pair.ensures.adds (c.in_ok-open_by-in-Pair.ensures.has m e)) h in
    on_ok_weaker c.open_by-in-Pair.result opens c.open_by-in-Pair.ensures.has

pub returns-in-Encrypted-clause-has : goal.returns-in-Encrypted-clause-has
returns-in-Encrypted-clause-has c =
    let trees = c.args.table.now.trees in
    let end = c.open_by-in-Encrypted.new.closure in
    let s = c.in-Encrypted.ensures in
    on_ok_weaker c.open_by-in-Encrypted.result
    (encrypted-openings c.symbols_reduce_once.ensures c.args.table.now.sig trees c.args.openers.now c.requires.openers end.clauses (tree_at trees c.in-Encrypted.message) (tree_at trees c.in-Encrypted.key) (tree_at trees c.args.n) s.2)
    c.open_by-in-Encrypted.ensures.has

pub returns-in-EncryptedTo-clause-has : goal.returns-in-EncryptedTo-clause-has
returns-in-EncryptedTo-clause-has c =
    let trees = c.args.table.now.trees in
    let end = c.open_by-in-EncryptedTo.new.closure in
    let s = c.in-EncryptedTo.ensures in
    on_ok_weaker c.open_by-in-EncryptedTo.result
    (secret-openings c.symbols_reduce_once.ensures c.args.table.now.sig trees c.args.openers.now c.requires.openers end.clauses (tree_at trees c.in-EncryptedTo.message) (tree_at trees c.in-EncryptedTo.secret) (tree_at trees c.args.n) s.2)
    c.open_by-in-EncryptedTo.ensures.has

pub returns-in-Signed-clause-has : goal.returns-in-Signed-clause-has
returns-in-Signed-clause-has c =
    let trees = c.args.table.now.trees in
    let end = c.open_by-in-Signed.new.closure in
    let s = c.in-Signed.ensures in
    on_ok_weaker c.open_by-in-Signed.result
    (signed-openings c.symbols_reduce_once.ensures c.args.table.now.sig trees c.args.openers.now c.requires.openers end.clauses (tree_at trees c.in-Signed.message) (tree_at trees c.in-Signed.key) (tree_at trees c.args.n) s.2)
    c.open_by-in-Signed.ensures.has
