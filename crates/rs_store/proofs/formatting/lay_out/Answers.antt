use Rattle.std.proofs.Common.{◌≡◌, ◌∙◌, List, ℕ, length, ap, subst, arith, rules}
use Rattle.rs_fixity.specs.Digests.{digests}
use Rattle.rs_directory.specs.Directory.{written_format}
use Rattle.rs_image.specs.declared.contents.Contents.{Contents}
use Rattle.rs_image.specs.Rooted.{Rooted, AreUsed}
use Rattle.rs_image.specs.StateOfImage.{listing}
use Rattle.rs_store.proofs.Started.{made_contents, made_listing, made_root, first_rooted}
use Rattle.rs_store.proofs.formatting.lay_out.Goals as goal

pub new-requires : goal.new-requires
new-requires c =
    let h = c.in_ok-header.header in
    let lists : Contents = record { header = h; catalogue = c.empty.result; history = c.empty-2.result; published = c.empty-3.result } in
    let bytes = c.in_ok-directory.directory.items in
    let spelled : bytes ≡ listing written_format lists =
    made_listing h c.empty.result c.empty-2.result c.empty-3.result bytes c.empty.ensures c.empty-2.ensures c.empty-3.ensures c.in_ok-directory.ensures.bytes.spelled in
    let long : c.directory_size-length.result ≡ length bytes = search rules in
    first_rooted c.args.base.now c.args.limit c.args.now c.args.size c.in_ok-header.ensures.may.room lists
    (made_contents c.args.base.now c.args.limit c.args.now h c.empty.result c.empty-2.result c.empty-3.result c.in_ok-header.ensures.header c.empty.ensures c.empty-2.ensures c.empty-3.ensures)
    _ (made_root lists bytes c.sha256_of-sha256.result c.blocks_for.result c.directory_size-length.result spelled long
    (c.sha256_of-sha256.ensures ∙ ap (λ (l : List ℕ). (digests l).sha256) c.deref.ensures.value) c.blocks_for.ensures)
    c.in_ok-directory.ensures.bytes.lawful.of_header (omega (arith, long, ap length spelled, c.directory_size-length.ensures.bound))

pub returns-clause-blank : goal.returns-clause-blank
returns-clause-blank c =
    let h = c.in_ok-header.header in
    let lists : Contents = record { header = h; catalogue = c.empty.result; history = c.empty-2.result; published = c.empty-3.result } in
    let bytes = c.in_ok-directory.directory.items in
    let spelled : bytes ≡ listing written_format lists =
    made_listing h c.empty.result c.empty-2.result c.empty-3.result bytes c.empty.ensures c.empty-2.ensures c.empty-3.ensures c.in_ok-directory.ensures.bytes.spelled in
    let long : c.directory_size-length.result ≡ length bytes = search rules in
    record {
      contents = made_contents c.args.base.now c.args.limit c.args.now h c.empty.result c.empty-2.result c.empty-3.result c.in_ok-header.ensures.header c.empty.ensures c.empty-2.ensures c.empty-3.ensures;
      lawful = c.in_ok-directory.ensures.bytes.lawful.of_header;
      root = made_root lists bytes c.sha256_of-sha256.result c.blocks_for.result c.directory_size-length.result spelled long
          (c.sha256_of-sha256.ensures ∙ ap (λ (l : List ℕ). (digests l).sha256) c.deref.ensures.value) c.blocks_for.ensures;
      directory = spelled;
      small = omega (arith, long, ap length spelled, c.directory_size-length.ensures.bound);
    }

pub returns-clause-sound : goal.returns-clause-sound
returns-clause-sound c =
    let is = returns-clause-blank c in
    record {
      rooted = first_rooted c.args.base.now c.args.limit c.args.now c.args.size c.in_ok-header.ensures.may.room _ is.contents _ is.root is.lawful is.small;
      used = subst (λ (r : Rooted). AreUsed r c.in_ok-used.used) c.new.ensures c.in_ok-used.ensures;
    }
