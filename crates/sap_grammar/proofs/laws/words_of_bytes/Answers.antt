use Rattle.sap_grammar.proofs.ByteWords.{tokens_words, words_tokens, more_room, one_list, all_token_words}
use Rattle.sap_grammar.proofs.laws.words_of_bytes.Goals as goal

pub returns-clause-tokens : goal.returns-clause-tokens
returns-clause-tokens c = tokens_words

pub returns-clause-lexed : goal.returns-clause-lexed
returns-clause-lexed c = words_tokens

pub returns-clause-one : goal.returns-clause-one
returns-clause-one c = λ m k z ws vs r s. one_list c.one_answer.ensures r s

pub returns-clause-room : goal.returns-clause-room
returns-clause-room c = λ m k z ws le r. more_room r le

pub returns-clause-held : goal.returns-clause-held
returns-clause-held c = λ most z ws r. all_token_words most r
