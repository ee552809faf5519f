-- What the sites of a core say fits their operations and where their `in` stands.
use Rattle.std.specs.Prelude.{◌≡◌, IsTrue, All}
use Rattle.sr_core.specs.declared.component.Core.{Core}
use Rattle.sr_core.specs.declared.site.Site.{Site}
use Rattle.sr_core.specs.Sites.{all_else_ok, all_guards_ok, all_own, all_scopes_ok}
use Rattle.sr_tables.specs.Sites.{site_of}

-- its lists have what its guards name besides formals, read and count, each once
abbrev pub IsListed : Site → Type 0
IsListed site = site ≡ site_of site.scope site.arms site.has_else

-- A core whose sites keep all rules. Each part is a rule of its own.
pub record HasSites (core : Core) : Type 0 where
  -- an `in` whose site has no `else` has no statement in its last block
  pub otherwise : IsTrue (all_else_ok core)
  -- an `in` names operations of the component in which it stands
  pub own : IsTrue (all_own core)
  -- they are all of the instance or all of the process, as the site says
  pub scopes : IsTrue (all_scopes_ok core)
  -- each number in the guards of the site of an `in`, and in its lists, names something where the `in` stands
  pub guards : IsTrue (all_guards_ok core)
  -- the lists of a site have what its guards name, read and count
  pub lists : All IsListed core.sites
