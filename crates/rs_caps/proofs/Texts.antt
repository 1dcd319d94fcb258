-- The pieces of the two documents that name no resource, joined, are their texts.
use Rattle.std.proofs.Common.{◌≡◌, ℕ, List, ◌++◌, append_assoc}
use Rattle.std.specs.Prelude.{codes}
use Rattle.rs_caps.specs.DocumentTexts.{description_text, capabilities_text}

pub description_pieces : (base b : List ℕ) → b ≡ base
    → codes "<?xml version=\"1.0\" encoding=\"UTF-8\"?>\n<urlset xmlns=\"http://www.sitemaps.org/schemas/sitemap/0.9\" xmlns:rs=\"http://www.openarchives.org/rs/terms/\">\n<rs:md capability=\"description\"/>\n<url><loc>"
    ++ (b ++ codes "/capabilitylist.xml</loc><rs:md capability=\"capabilitylist\"/></url>\n</urlset>\n") ≡ description_text base
description_pieces base b e = rw e (simp append_assoc)

pub capabilities_pieces : (base b c d : List ℕ) → b ≡ base → c ≡ base → d ≡ base
    → codes "<?xml version=\"1.0\" encoding=\"UTF-8\"?>\n<urlset xmlns=\"http://www.sitemaps.org/schemas/sitemap/0.9\" xmlns:rs=\"http://www.openarchives.org/rs/terms/\">\n<rs:ln rel=\"up\" href=\""
    ++ (b ++ (codes "/.well-known/resourcesync\"/>\n<rs:md capability=\"capabilitylist\"/>\n<url><loc>"
    ++ (c ++ (codes "/resourcelist.xml</loc><rs:md capability=\"resourcelist\"/></url>\n<url><loc>"
    ++ (d ++ codes "/changelist.xml</loc><rs:md capability=\"changelist\"/></url>\n</urlset>\n")))))
    ≡ capabilities_text base
capabilities_pieces base b c d e f g = rw (e, f, g) (simp append_assoc)
