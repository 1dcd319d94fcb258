use Rattle.rs_body.proofs.Only.{only_on, part_only}
use Rattle.rs_body.proofs.laws.only_goes_on.Goals as goal

pub returns-clause-joins : goal.returns-clause-joins
returns-clause-joins g c = λ xs ys zs old mid new first second left right split no_further one two. only_on xs ys zs old mid new first second left right split no_further one two

pub returns-clause-part : goal.returns-clause-part
returns-clause-part g c = λ e at n old new run. part_only e at n old new run
