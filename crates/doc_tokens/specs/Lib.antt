pub mod MembersAt
