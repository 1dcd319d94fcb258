-- Responses, computed.
use Rattle.std.proofs.Common.{◌≡◌, refl}
use Rattle.rs_store.specs.declared.refusal.Refusal.TheVariants as refusals
use Rattle.rs_items.specs.declared.item.ItemFault.TheVariants as items
use Rattle.rs_http.specs.declared.request.RequestFault.TheVariants.{Line}
use Rattle.rs_http.specs.declared.response.Framing.{Framing}
use Rattle.rs_http.specs.Responses.{faulted, refused, response_text, status_of}

-- A lack of memory has the same response, whether the request or the source met it.
pub no_memory_reads_alike : (framing : Framing) → response_text framing (faulted (Line items.NoMemory)) ≡ response_text framing (refused refusals.NoMemory)
no_memory_reads_alike framing = refl

pub no_memory_is_one_status : status_of (faulted (Line items.NoMemory)) ≡ status_of (refused refusals.NoMemory)
no_memory_is_one_status = refl
