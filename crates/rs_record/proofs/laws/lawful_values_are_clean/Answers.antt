-- The clauses are lemmas.
use Rattle.rs_record.proofs.Clean.{name_clean, base_clean, media_type_lacks}
use Rattle.rs_record.proofs.laws.lawful_values_are_clean.Goals as goal

pub returns-clause-names : goal.returns-clause-names
returns-clause-names c = name_clean

pub returns-clause-bases : goal.returns-clause-bases
returns-clause-bases c = base_clean

pub returns-clause-media_types : goal.returns-clause-media_types
returns-clause-media_types c = media_type_lacks
