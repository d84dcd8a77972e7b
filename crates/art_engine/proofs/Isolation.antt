-- Whatever other tenants send, a tenant is answered from what it holds alone.
use Rattle.std.proofs.Common.{◌≡◌, ◌≢◌, ℕ, List, [], ◌∷◌, refl, ap, sym, subst, ◌∙◌, Bool, true, false, cond, Option, Some, None}
use Rattle.std.specs.Prelude.{◌==◌, flat_map}
use Rattle.std.proofs.lemmas.Bool.{eqb-true, eq-eqb, true≢false}
use Rattle.art_lines.proofs.Common.{line_of, Command, of_tenant}
use Rattle.art_lines.specs.Reading.{command_of}
use Rattle.art_engine.proofs.Terms.{Own, Records, own, own_reply, own_after, with_changed, command_reply, command_after, left_by, reply_to, request_to, own_changed, with_reply, own_after_line, own_output, own_replies, own_at_end, RequestsLeaveOthers, TenantsStandAlone}
use Rattle.art_engine.proofs.OwnLaws.{own_reads_back, others_are_untouched}

changed_others : (other tenant : ℕ) (o : Option Own) (records : Records) → other ≢ tenant → own other (with_changed tenant o records) ≡ own other records
changed_others other tenant None records apart = refl
changed_others other tenant (Some mine) records apart = others_are_untouched other tenant mine records apart

pub requests_leave_others : RequestsLeaveOthers
requests_leave_others other tenant request records apart = changed_others other tenant (own_after request (own tenant records)) records apart

changed_own : (tenant : ℕ) (o : Option Own) (records : Records) → own tenant (with_changed tenant o records) ≡ own_changed o (own tenant records)
changed_own tenant None records = refl
changed_own tenant (Some mine) records = own_reads_back tenant mine records

-- what a command leaves a tenant
left_own : (tenant : ℕ) (o : Option Command) (records : Records) → own tenant (command_after o records) ≡ own_after_line false (request_to tenant o) (own tenant records)
left_own tenant (Some (of_tenant other request)) records = go (other == tenant) refl
  where
    go : (b : Bool) → (other == tenant) ≡ b
        → own tenant (with_changed other (own_after request (own other records)) records) ≡ own_after_line false (cond b (Some request) None) (own tenant records)
    go true e = subst (λ u. own tenant (with_changed u (own_after request (own u records)) records) ≡ own_changed (own_after request (own tenant records)) (own tenant records))
        (sym (eqb-true other tenant e)) (changed_own tenant (own_after request (own tenant records)) records)
    go false e = changed_others tenant other (own_after request (own other records)) records (λ same. absurd (true≢false (sym (eq-eqb other tenant (sym same)) ∙ e)))
left_own tenant o records = refl

-- what a line is answered, where it is a request of the tenant's
told_own : (tenant : ℕ) (o : Option Command) (records : Records) (rest : List (List ℕ))
    → with_reply false (request_to tenant o) (flat_map line_of (command_reply o records)) rest ≡ with_reply false (request_to tenant o) (own_output (request_to tenant o) (own tenant records)) rest
told_own tenant (Some (of_tenant other request)) records rest = go (other == tenant) refl
  where
    go : (b : Bool) → (other == tenant) ≡ b
        → with_reply false (cond b (Some request) None) (flat_map line_of (own_reply request (own other records))) rest
        ≡ with_reply false (cond b (Some request) None) (own_output (cond b (Some request) None) (own tenant records)) rest
    go true e = ap (λ u. flat_map line_of (own_reply request (own u records)) ∷ rest) (eqb-true other tenant e)
    go false e = refl
told_own tenant o records rest = refl

left_is : (b : Bool) (tenant : ℕ) (records : Records) (line : List ℕ) → own tenant (left_by b records line) ≡ own_after_line b (request_to tenant (command_of line)) (own tenant records)
left_is true tenant records line = refl
left_is false tenant records line = left_own tenant (command_of line) records

told_is : (b : Bool) (tenant : ℕ) (records : Records) (line : List ℕ) (rest : List (List ℕ))
    → with_reply b (request_to tenant (command_of line)) (reply_to records line) rest
    ≡ with_reply b (request_to tenant (command_of line)) (own_output (request_to tenant (command_of line)) (own tenant records)) rest
told_is true tenant records line rest = refl
told_is false tenant records line rest = told_own tenant (command_of line) records rest

pub tenants_stand_alone : TenantsStandAlone
tenants_stand_alone tenant records [] = (refl, refl)
tenants_stand_alone tenant records (l ∷ lines) =
    let later = tenants_stand_alone tenant (left_by l.1 records l.0) lines in
    let mine = left_is l.1 tenant records l.0 in
    let request = request_to tenant (command_of l.0) in (
      ap (with_reply l.1 request (reply_to records l.0)) (later.0 ∙ ap (λ m. own_replies tenant m lines) mine)
          ∙ told_is l.1 tenant records l.0 (own_replies tenant (own_after_line l.1 request (own tenant records)) lines),
      later.1 ∙ ap (λ m. own_at_end tenant m lines) mine,
    )
