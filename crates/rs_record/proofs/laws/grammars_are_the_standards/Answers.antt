-- The clauses are lemmas.
use Rattle.rs_record.proofs.Grammars.{name_grammar, media_type_grammar}
use Rattle.rs_record.proofs.laws.grammars_are_the_standards.Goals as goal

pub returns-clause-names : goal.returns-clause-names
returns-clause-names c = name_grammar

pub returns-clause-media_types : goal.returns-clause-media_types
returns-clause-media_types c = media_type_grammar
