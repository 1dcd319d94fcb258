-- The root elements of documents (Sitemap 0.9).
use Rattle.std.specs.Prelude.{ℕ, List, codes}
use Rattle.rs_lists.specs.declared.frame.RootElement.{RootElement}
use Rattle.rs_lists.specs.declared.frame.RootElement.TheVariants.{UrlSet, SitemapIndex}

-- the name of the element
abbrev pub tag_of : RootElement → List ℕ
tag_of UrlSet = codes "urlset"
tag_of SitemapIndex = codes "sitemapindex"
