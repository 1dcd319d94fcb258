use Rattle.rs_extent.proofs.Sets.{apart_both, apart_front, apart_behind, apart_between}
use Rattle.rs_extent.proofs.laws.apart_in_parts.Goals as goal

pub returns : goal.returns
returns c xs ys = (
  λ apart. (apart_front xs ys apart, apart_behind xs ys apart, apart_between xs ys apart),
  λ parts. apart_both xs ys parts.0 parts.1 parts.2,
)
